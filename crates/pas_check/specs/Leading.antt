-- How far a check is in its text, and what it knows there.
use Rattle.std.specs.Prelude.{ℕ, ◌+◌, ◌≤◌, ◌≡◌, ◌↔◌, Bool, true, false, List, ◌∷◌, length, take, drop}
use Rattle.pas_profile.specs.declared.profile.Profile.{Profile}
use Rattle.pas_check.specs.{Accepted.{IsStopped, IsWhole, MayGo}, Lines.lines_in, States.{Due, Stand, with_due}, declared.cutting.Cursor.Cursor}

-- the lines from the cursor on
abbrev pub lines_from : List ℕ → Cursor → List (List ℕ)
lines_from text at = lines_in (drop at.bytes text)

-- the cursor stands in the text, which is no longer than an input
pub record IsWithin (text : List ℕ) (at : Cursor) : Type 0 where
  pub bytes : at.bytes ≤ length text
  pub lines : at.lines ≤ at.bytes
  pub short : length text ≤ 16777216

-- The lines between two places of a text lead from one state to another: from there on the rest goes, as far as it goes, as the lines went from here.
pub record Leads (f : Profile) (text : List ℕ) (s : Stand) (old : Cursor) (t : Stand) (new : Cursor) : Type 0 where
  pub taken : ℕ
  pub count : new.lines ≡ old.lines + taken
  pub length_is : length (lines_from text old) ≡ taken + length (lines_from text new)
  pub go : (n : ℕ) → MayGo f s (take (taken + n) (lines_from text old)) ↔ MayGo f t (take n (lines_from text new))
  pub whole : IsWhole f s (lines_from text old) ↔ IsWhole f t (lines_from text new)
  pub within : IsWithin text new

-- from here on the line of this number is the first that isn't allowed
pub record Fails (f : Profile) (text : List ℕ) (s : Stand) (old : Cursor) (number : ℕ) : Type 0 where
  pub further : ℕ
  pub number_is : number ≡ old.lines + further
  pub stopped : IsStopped f s (lines_from text old) further

-- the lines lead to the state; or the last line before the new place can't be taken, or is wanting
abbrev pub IsLed : Profile → List ℕ → Stand → Cursor → Stand → Cursor → Bool → Type 0
IsLed f text s old t new true = Leads f text s old t new
IsLed f text s old t new false = Fails f text s old new.lines

-- where this is due first, one line answers it; or it doesn't
pub record IsLineLed (text : List ℕ) (from to : Cursor) (due : Due) (is : Bool) : Type 0 where
  pub led : (f : Profile) (s : Stand) (more : List Due) → s.due ≡ due ∷ more → IsLed f text s from (with_due s more) to is

-- The next line is just this one; or it is another, or is wanting.
abbrev pub IsJustLine : List ℕ → Cursor → Cursor → List ℕ → Bool → Type 0
IsJustLine text old new line true = (lines_from text old ≡ line ∷ lines_from text new) × IsWithin text new
IsJustLine text old new line false = (rest : List (List ℕ)) → lines_from text old ≡ line ∷ rest → ⊥

-- where the lines were taken, the cursor still stands in the text
abbrev pub StaysWithin : List ℕ → Cursor → Bool → Type 0
StaysWithin text at true = IsWithin text at
StaysWithin text at false = Unit {0}
