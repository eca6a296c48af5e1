-- One order of what several actors did, each by itself.
use Rattle.std.specs.Prelude.{ℕ, ◌≡◌, ◌≢◌, ◌==◌, Bool, if◌then◌else◌, [], ◌∷◌}
use Rattle.pas_profile.specs.declared.profile.Profile.{Profile}
use Rattle.pas_steps.specs.{Views.View, Lists.{Whole, Legal, part}, Desks.triple, declared.step.Made.Made}

-- the part of each actor is that actor's own list
abbrev pub IsOneOrder : Whole → (ℕ → View) → Type 0
IsOneOrder l own = (k : ℕ) → part k l ≡ own k

-- the own lists where actor k has one more step
abbrev pub with_step : ℕ → Made → (ℕ → View) → ℕ → View
with_step k m own j = if j == k then m ∷ own j else own j

-- the steps of the chosen actors, in the order in which they were made
abbrev pub steps_by : (ℕ → Bool) → Whole → Whole
steps_by chosen [] = []
steps_by chosen (t ∷ l) = if chosen t.actor then t ∷ steps_by chosen l else steps_by chosen l

-- the list with one more step of actor k is legal, and just the part of actor k has the step
pub record ExtendsOnePart (f : Profile) (l : Whole) (k : ℕ) (m : Made) : Type 0 where
  pub legal : Legal f (triple k m ∷ l)
  pub its_part : part k (triple k m ∷ l) ≡ m ∷ part k l
  pub others : (j : ℕ) → j ≢ k → part j (triple k m ∷ l) ≡ part j l
