-- What shows that a page is usable for a large block of a heap, and what shows that it isn't. Each reading is said of a step and of the steps of
-- the call before it, the newest first.
use Rattle.std.specs.Prelude.{ℕ, ◌+◌, ◌*◌, ◌<◌, ◌≡◌, ◌≢◌, ◌/◌, ◌⊎◌, true, false, ◌||◌, List}
use Rattle.pas_bits.specs.Bits.{has_bit}
use Rattle.pas_profile.specs.{Directories.deed_word_of, declared.directory.Directory.Directory}
use Rattle.pas_steps.specs.{Views.{holds, has_right}, Past.{Once, Always, Since}, declared.step.{Made.Made, Step.TheVariants.{Deed, Park}}, Evidence.ReadsDeed}
use Rattle.pas_steps.specs.Evidence.{ReadsFree, ZeroHere, OneHere, NoDeedHere}

-- its deed word was read
abbrev pub DeedReadHere : ℕ → Made → List Made → Type 0
DeedReadHere page m before = ReadsDeed page m.step

-- its deed word was read as that of the directory
abbrev pub OfHere : Directory → ℕ → Made → List Made → Type 0
OfHere d page m before = ReadsDeed page m.step × (m.answer ≡ deed_word_of d)

-- each grain of this free word is free by this reading. What the call took and hasn't put back counts as free
abbrev pub IsAllFree : ℕ → ℕ → ℕ → List Made → Type 0
IsAllFree page word a before = (b : ℕ) → b < 64 → (has_bit a b || holds before (page * 256 + (64 * word + b))) ≡ true

abbrev pub WholeHere : ℕ → ℕ → Made → List Made → Type 0
WholeHere page word m before = ReadsFree page word m.step × IsAllFree page word m.answer before

-- some grain of a free word of the page wasn't
abbrev pub UsedHere : ℕ → Made → List Made → Type 0
UsedHere page m before = (word : ℕ) × (word < 4) × ReadsFree page word m.step × (IsAllFree page word m.answer before → ⊥)

-- ---- usable
-- it was read as of the directory, as offered, and each of its free words with all grains free
pub record IsOfferedWhole (d : Directory) (page : ℕ) (steps : List Made) : Type 0 where
  pub of : Once (OfHere d page) steps
  pub offered : Once (OneHere d page) steps
  pub free : (word : ℕ) → word < 4 → Once (WholeHere page word) steps

abbrev pub ReadUsable : Directory → ℕ → List Made → Type 0
ReadUsable d page steps = Once (NoDeedHere page) steps ⊎ IsOfferedWhole d page steps

-- ---- not usable
abbrev pub ParksNotHere : ℕ → Made → List Made → Type 0
ParksNotHere page m before = m.step ≡ Park page → ⊥

-- the call didn't park the page itself, or it read its eligible bit as 1 since it parked it last
abbrev pub IsFresh : Directory → ℕ → List Made → Type 0
IsFresh d page before = Always (ParksNotHere page) before ⊎ Since (OneHere d page) (ParksNotHere page) before

-- a reading of its eligible bit as 0 that tells of other actors
abbrev pub FreshZeroHere : Directory → ℕ → Made → List Made → Type 0
FreshZeroHere d page m before = ZeroHere d page m before × IsFresh d page before

abbrev pub OtherDeedHere : Directory → ℕ → Made → List Made → Type 0
OtherDeedHere d page m before = ReadsDeed page m.step × (m.answer ≢ 0) × (m.answer ≢ deed_word_of d)

-- it isn't offered, and was known by then to be of the directory
abbrev pub NotOfferedHere : Directory → ℕ → Made → List Made → Type 0
NotOfferedHere d page m before = FreshZeroHere d page m before × Once (OfHere d page) before

abbrev pub UnusableHere : Directory → ℕ → Made → List Made → Type 0
UnusableHere d page m before = OtherDeedHere d page m before ⊎ (NotOfferedHere d page m before ⊎ UsedHere page m before)

-- ---- what earlier steps of the call left alone
-- this step made no deed of the page
abbrev pub MakesNoDeedHere : ℕ → Made → List Made → Type 0
MakesNoDeedHere page m before = (d : Directory) → m.step ≡ Deed page d → m.answer ≡ 0 → ⊥

-- these steps don't have the page's right and hold none of its grains, and they neither parked it nor made its deed
pub record LeftAlone (page : ℕ) (xs : List Made) : Type 0 where
  pub right : has_right xs page ≡ false
  pub none : (g : ℕ) → g / 256 ≡ page → holds xs g ≡ false
  pub parks : Always (ParksNotHere page) xs
  pub deeds : Always (MakesNoDeedHere page) xs
