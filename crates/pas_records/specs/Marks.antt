-- The marks of a page.
use Rattle.std.specs.Prelude.{ℕ, ◌+◌, ◌==◌, Bool, false, if◌then◌else◌, List, [], ◌∷◌, ◌++◌, Option, None, Some, codes}
use Rattle.pas_bits.specs.Bits.{has_bit}
use Rattle.pas_profile.specs.{Directories.{number_of, directory_read}, declared.{directory.Directory.Directory, word.Word.Word}}
use Rattle.pas_steps.specs.Lists.{Whole, word_after}
use Rattle.pas_core.specs.Rights.{parked_bit, empty_bit, eligible_bit}

-- a page is backed, offered, parked, hinted
pub record Marked : Type 0 where
  pub backed : Bool
  pub offered : Bool
  pub parked : Bool
  pub hinted : Bool

abbrev pub mark_if : Bool → List ℕ → List (List ℕ) → List (List ℕ)
mark_if set name names = if set then name ∷ names else names

-- the names of the marks that are set, in the order backed, offered, parked, hinted
abbrev pub mark_names : Marked → List (List ℕ)
mark_names m = mark_if m.backed (codes "backed") (mark_if m.offered (codes "offered") (mark_if m.parked (codes "parked") (mark_if m.hinted (codes "hinted") [])))

-- .. joined by `+`, or `none`
abbrev pub joined : List (List ℕ) → List ℕ
joined [] = codes "none"
joined (w ∷ []) = w
joined (w ∷ v ∷ ws) = w ++ (codes "+" ++ joined (v ∷ ws))

abbrev pub marks_text : Marked → List ℕ
marks_text m = joined (mark_names m)

-- ---- the marks as bits of a number: backed 1, offered 2, parked 4, hinted 8
abbrev pub mark_bit : Bool → ℕ → ℕ
mark_bit set n = if set then n else 0

abbrev pub bits_of : Marked → ℕ
bits_of m = mark_bit m.backed 1 + (mark_bit m.offered 2 + (mark_bit m.parked 4 + mark_bit m.hinted 8))

-- the marks whose bits are set
abbrev pub marks_of : ℕ → Marked
marks_of n = record { backed = has_bit n 0; offered = has_bit n 1; parked = has_bit n 2; hinted = has_bit n 3 }

-- ---- the marks after a list of steps
-- the page is offered in this directory: its bit of the directory's page vector is set. A page without a directory isn't
abbrev pub offered_after : Whole → ℕ → Option Directory → Bool
offered_after l page None = false
offered_after l page (Some d) = eligible_bit l (number_of d) page

-- a page is backed where its backed word is 1; offered in the directory of its own deed word; parked and hinted by its bits of these two page vectors
abbrev pub marks_after : Whole → ℕ → Marked
marks_after l page = record {
  backed = word_after l (Word.Backed page) == 1;
  offered = offered_after l page (directory_read (word_after l (Word.Deed page)));
  parked = parked_bit l page;
  hinted = empty_bit l page;
}
