-- What a list of outcomes shows.
use Rattle.std.specs.Prelude.{ℕ, List}
use Rattle.pas_profile.specs.{Rooms.Holding, declared.event.Outcome.Outcome}

-- a room for pairs of a page and its outcome
abbrev pub Outcomes : Type 0
Outcomes = Holding (ℕ × Outcome)

-- the pairs that are in it, in order
abbrev pub pairs_in : Outcomes → List (ℕ × Outcome)
pairs_in outcomes = outcomes.items

abbrev pub pair : ℕ → Outcome → ℕ × Outcome
pair page outcome = (page, outcome)

-- for how many pairs it was made
abbrev pub places_of : Outcomes → ℕ
places_of outcomes = outcomes.bound
