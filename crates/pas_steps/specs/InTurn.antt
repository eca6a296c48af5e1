-- Steps that are made for each of some things in turn.
use Rattle.std.specs.Prelude.{ℕ, zero, suc, ◌≡◌, List, [], ◌∷◌, ◌++◌}
use Rattle.pas_steps.specs.declared.step.Made.{Made}

-- P says which steps are those for one thing. The thing that came last stands first, as the newest step does
abbrev pub InTurn : {A : Type 0} → (A → List Made → Type 0) → List A → List Made → Type 0
InTurn P [] steps = steps ≡ []
InTurn P (x ∷ earlier) steps = (piece : List Made) × (before : List Made) × P x piece × InTurn P earlier before × (steps ≡ piece ++ before)

-- the numbers below n, the greatest first
abbrev pub numbers_below : ℕ → List ℕ
numbers_below zero = []
numbers_below (suc n) = n ∷ numbers_below n
