-- What an actor does that leaves its call too early.
use Rattle.std.specs.Prelude.{ℕ, ◌≡◌, true, List, ◌∷◌, ◌++◌}
use Rattle.pas_profile.specs.declared.word.Word.{Word}
use Rattle.pas_steps.specs.{Clear.OwesNothing, Desks.made, Views.{View, owes_hint}, declared.step.{Made.Made, Step.TheVariants.{Look, Park}}}
use Rattle.pas_rights.specs.{Looks.looks, Words.ones}

-- the looks of a leave at a page without room, and the parking, but no look after it
abbrev pub parks_only : ℕ → (ℕ → ℕ) → ℕ → ℕ → List Made
parks_only page answers n a = made (Park page) a ∷ looks page answers n

-- the looks at a page whose grains were put back, each of which shows all ones, and at its backed word, which is 1, but no hint
abbrev pub looks_only : ℕ → ℕ → List Made
looks_only page n = made (Look (Word.Backed page)) 1 ∷ looks page ones n

-- whatever the actor did before: once it parked a page and made no step since, it owes a look there
abbrev pub ParkingOwes : Type 0
ParkingOwes = (page n a : ℕ) (answers : ℕ → ℕ) (v : View) → OwesNothing page (parks_only page answers n a ++ v) → ⊥

-- whatever the actor did before: where it owed the hint of a page, it still does after looks that showed each grain as free and the page as backed
abbrev pub LookingOwes : Type 0
LookingOwes = (page n : ℕ) (v : View) → owes_hint v page ≡ true → OwesNothing page (looks_only page n ++ v) → ⊥
