-- The evidence of a search, over the steps of one call, the newest first. Each reading is said of a step and of the steps of the call before
-- it. For a page of the directory a reading of its eligible or parked bit counts only where the call hasn't the page's right before that step.
use Rattle.std.specs.Prelude.{ℕ, ◌+◌, ◌*◌, ◌/◌, ◌%◌, ◌<◌, ◌≤◌, ◌≡◌, ◌≢◌, ◌⊎◌, Bool, true, false, ◌||◌, List, ◌∷◌}
use Rattle.pas_bits.specs.Bits.{has_bit}
use Rattle.pas_profile.specs.{Directories.number_of, declared.{directory.Directory.Directory, word.Word.Word}}
use Rattle.pas_steps.specs.{Views.{holds, has_right}, Past.{Once, Always, Since}, Frames.GivesUp, declared.step.Step.{Step, TheVariants.{Look, Deed, Take}}}
use Rattle.pas_steps.specs.declared.step.{Step.TheVariants.TakeRight, Made.Made}

-- ---- what a step reads: the answers of `take_right`, `deed` and `take` are readings too
-- the eligible bit of the page
pub data ReadsEligible (d : Directory) (page : ℕ) : Step → Type 0 where
  Looks : (n j : ℕ) → n ≡ number_of d → j ≡ page / 64 → ReadsEligible d page (Look (Word.Eligible n j))
  Claims : ReadsEligible d page (TakeRight page d)

-- its deed word
pub data ReadsDeed (page : ℕ) : Step → Type 0 where
  Looks : ReadsDeed page (Look (Word.Deed page))
  Deeds : (d : Directory) → ReadsDeed page (Deed page d)

-- its parked bit
pub data ReadsParked (page : ℕ) : Step → Type 0 where
  Looks : (j : ℕ) → j ≡ page / 64 → ReadsParked page (Look (Word.Parked j))

-- a free word of it
pub data ReadsFree (page word : ℕ) : Step → Type 0 where
  Looks : ReadsFree page word (Look (Word.Free page word))
  Takes : (mask : ℕ) → ReadsFree page word (Take page word mask)

-- the step gets the right of the page, by a claim or a deed
pub data GetsRight (page : ℕ) : Step → ℕ → Type 0 where
  Claims : (d : Directory) (a : ℕ) → has_bit a (page % 64) ≡ true → GetsRight page (TakeRight page d) a
  Deeds : (d : Directory) (a : ℕ) → a ≡ 0 → GetsRight page (Deed page d) a

-- ---- readings
abbrev pub ZeroHere : Directory → ℕ → Made → List Made → Type 0
ZeroHere d page m before = ReadsEligible d page m.step × (has_bit m.answer (page % 64) ≡ false) × (has_right before page ≡ false)

abbrev pub OneHere : Directory → ℕ → Made → List Made → Type 0
OneHere d page m before = ReadsEligible d page m.step × (has_bit m.answer (page % 64) ≡ true) × (has_right before page ≡ false)

abbrev pub DeedHere : ℕ → Made → List Made → Type 0
DeedHere page m before = ReadsDeed page m.step × (m.answer ≢ 0)

abbrev pub NoDeedHere : ℕ → Made → List Made → Type 0
NoDeedHere page m before = ReadsDeed page m.step × (m.answer ≡ 0)

-- the parked bit was read so
abbrev pub ParkedHere : Bool → ℕ → Made → List Made → Type 0
ParkedHere set page m before = ReadsParked page m.step × (has_bit m.answer (page % 64) ≡ set) × (has_right before page ≡ false)

-- no word is looked at twice
abbrev pub IsSingle : List Made → Type 0
IsSingle = Always (λ m before. Once (λ n earlier. n.step ≡ m.step) before → ⊥)

-- ---- a page that was got
abbrev pub GetsHere : ℕ → Made → List Made → Type 0
GetsHere page m before = GetsRight page m.step m.answer

-- the call hasn't the page's right after this step
abbrev pub LacksAfter : ℕ → Made → List Made → Type 0
LacksAfter page m before = has_right (m ∷ before) page ≡ false

-- the call has it before this step
abbrev pub KeptHere : ℕ → Made → List Made → Type 0
KeptHere page m before = has_right before page ≡ true

-- whether each grain of a page, from 0 to 255, was read as free
abbrev pub Readings : Type 0
Readings = ℕ → Bool

-- where some readings show no fit, neither do readings of fewer free grains
abbrev pub IsAntitone : (Readings → Type 0) → Type 0
IsAntitone no_fit = (r fewer : Readings) → ((b : ℕ) → b < 256 → fewer b ≡ true → r b ≡ true) → no_fit r → no_fit fewer

-- this step reads the free word so, with the right. What the call took and hasn't put back counts as free
abbrev pub ShowsHere : ℕ → ℕ → Readings → Made → List Made → Type 0
ShowsHere page word r m before =
    ReadsFree page word m.step × (has_right before page ≡ true)
    × ((b : ℕ) → b < 64 → r (64 * word + b) ≡ (has_bit m.answer b || holds before (page * 256 + (64 * word + b))))

-- This step gives up the right of a page that was got, after one reading of its four free words, made while the right was kept, that shows
-- no fit.
pub record UnfitHere (NoFit : Readings → Type 0) (page : ℕ) (m : Made) (before : List Made) : Type 0 where
  pub left : GivesUp page m.step
  pub kept : has_right before page ≡ true
  pub got : Once (GetsHere page) before
  pub readings : Readings
  pub none : NoFit readings
  pub read : (word : ℕ) → word < 4 → Since (ShowsHere page word readings) (KeptHere page) before

-- ---- what a search says
-- each page from 1 to below this one was got and didn't fit, or the call never had its right and read its eligible bit as 0
abbrev pub Searched : (Readings → Type 0) → Directory → ℕ → List Made → Type 0
Searched NoFit d end steps = (page : ℕ) → 1 ≤ page → page < end → Once (UnfitHere NoFit page) steps ⊎ (Always (LacksAfter page) steps × Once (ZeroHere d page) steps)

-- the deed word of each page from 1 to below this one was read as not 0
abbrev pub AllDeeds : ℕ → List Made → Type 0
AllDeeds end steps = (page : ℕ) → 1 ≤ page → page < end → Once (DeedHere page) steps

-- the page was got and left
abbrev pub LeftHere : ℕ → Made → List Made → Type 0
LeftHere page m before = GivesUp page m.step × (has_right before page ≡ true) × Once (GetsHere page) before

-- its parked bit was read as 1, after its eligible bit or its deed word was read as 0
abbrev pub ParkedLater : Directory → ℕ → Made → List Made → Type 0
ParkedLater d page m before = ParkedHere true page m before × (Once (ZeroHere d page) before ⊎ Once (NoDeedHere page) before)

abbrev pub Accounted : Directory → ℕ → List Made → Type 0
Accounted d page steps = Once (LeftHere page) steps ⊎ Once (ParkedLater d page) steps

-- the parked bit was read as 0, after the eligible bit or the deed word was read as 0, and the call hadn't the right in between
abbrev pub MissingHere : Directory → ℕ → Made → List Made → Type 0
MissingHere d page m before = (ZeroHere d page m before ⊎ NoDeedHere page m before) × LacksAfter page m before

abbrev pub HeldHere : Directory → ℕ → Made → List Made → Type 0
HeldHere d page m before = ParkedHere false page m before × Since (MissingHere d page) (LacksAfter page) before
