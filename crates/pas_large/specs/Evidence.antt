-- The evidence of a large request, over the steps of one call, the newest first.
use Rattle.std.specs.Prelude.{ℕ, ◌+◌, ◌/◌, ◌%◌, ◌<◌, ◌≤◌, ◌≡◌, ◌≢◌, ◌⊎◌, true, false, List}
use Rattle.pas_bits.specs.Bits.{has_bit}
use Rattle.pas_profile.specs.{Directories.deed_word_of, Profiles.IsPage, declared.{directory.Directory.Directory, profile.Profile.Profile}}
use Rattle.pas_steps.specs.{Views.{holds, has_right}, Past.{Once, Always, Since}, declared.step.{Made.Made, Step.TheVariants.{Deed, TakeRight}}}
use Rattle.pas_steps.specs.Evidence.{Readings, ReadsDeed, NoDeedHere, KeptHere, GetsHere, UnfitHere}
use Rattle.pas_scan.specs.{Usable.{DeedReadHere, OfHere, ParksNotHere, WholeHere, ReadUsable, IsFresh, UnusableHere, MakesNoDeedHere}, Runs.IsInRun}

-- ---- lost and broken
-- a claim read its eligible bit as 0
abbrev pub LostRightHere : Directory → ℕ → Made → List Made → Type 0
LostRightHere d page m before = (m.step ≡ TakeRight page d) × (has_bit m.answer (page % 64) ≡ false) × (has_right before page ≡ false) × IsFresh d page before

-- a deed came too late: its deed word was read as 0 before, the call hadn't made its deed, and now it isn't 0
abbrev pub LostDeedHere : Directory → ℕ → Made → List Made → Type 0
LostDeedHere d page m before = (m.step ≡ Deed page d) × (m.answer ≢ 0) × Once (NoDeedHere page) before × Always (MakesNoDeedHere page) before

abbrev pub LostHere : Directory → ℕ → Made → List Made → Type 0
LostHere d page m before = LostRightHere d page m before ⊎ LostDeedHere d page m before

-- some grain of the page wasn't read as free
abbrev pub NotAll : Readings → Type 0
NotAll r = ((b : ℕ) → b < 256 → r b ≡ true) → ⊥

-- the page was got, one reading of its four free words, made while the right was kept, isn't all ones, and this step gives the right up
abbrev pub BrokenHere : ℕ → Made → List Made → Type 0
BrokenHere page m before = UnfitHere NotAll page m before

-- ---- runs that can't serve
abbrev pub BadHere : Directory → ℕ → Made → List Made → Type 0
BadHere d page m before = UnusableHere d page m before ⊎ (LostHere d page m before ⊎ BrokenHere page m before)

-- the run has a page that was read as not usable, or was lost or broken
abbrev pub HasBad : Directory → ℕ → ℕ → List Made → Type 0
HasBad d n first steps = (page : ℕ) × IsInRun first n page × Once (BadHere d page) steps

-- each deed word was read, and no run can serve
pub record IsVain (f : Profile) (d : Directory) (n : ℕ) (steps : List Made) : Type 0 where
  pub deeds : (page : ℕ) → IsPage f page → Once (DeedReadHere page) steps
  pub runs : (first : ℕ) → 1 ≤ first → first + n ≤ f.pages + 1 → HasBad d n first steps

-- ---- runs that failed
-- all pages of the run had been read as usable
abbrev pub AllUsable : Directory → ℕ → ℕ → List Made → Type 0
AllUsable d n first before = (page : ℕ) → IsInRun first n page → ReadUsable d page before

-- a page of the run was lost or broken, after all of its pages had been read as usable
abbrev pub FailsHere : Directory → ℕ → ℕ → Made → List Made → Type 0
FailsHere d n first m before = AllUsable d n first before × ((page : ℕ) × IsInRun first n page × (LostHere d page m before ⊎ BrokenHere page m before))

abbrev pub HasFailed : Directory → ℕ → ℕ → List Made → Type 0
HasFailed d n first steps = Once (FailsHere d n first) steps

-- each deed that was made is of a page of a run all of whose pages had been read as usable before it, and that run is one of these
abbrev pub DeedsOf : Directory → ℕ → (ℕ → Type 0) → List Made → Type 0
DeedsOf d n Chosen = Always (λ m before. (page : ℕ) (e : Directory) → m.step ≡ Deed page e → m.answer ≡ 0 → (e ≡ d) × ((first : ℕ) × IsInRun first n page × AllUsable d n first before × Chosen first))

-- ---- the order of deeds
-- each deed that was made is of a page below this one
abbrev pub DeedsBelow : ℕ → List Made → Type 0
DeedsBelow end = Always (λ m before. (page : ℕ) (e : Directory) → m.step ≡ Deed page e → m.answer ≡ 0 → page < end)

-- each deed that was made is of a page above those of the deeds before it
abbrev pub DeedsRise : List Made → Type 0
DeedsRise = Always (λ m before. (page : ℕ) (e : Directory) → m.step ≡ Deed page e → m.answer ≡ 0 → DeedsBelow page before)

-- ---- the choice
-- a take, made with the right, read each grain of this free word as free
abbrev pub TakenWholeHere : ℕ → ℕ → Made → List Made → Type 0
TakenWholeHere page word m before = WholeHere page word m before × KeptHere page m before

-- Each page of the run was read as usable, and then got. Each of its free words was read as all free with the right, which was kept since.
pub record IsTakenRun (d : Directory) (n first : ℕ) (before : List Made) : Type 0 where
  pub usable : AllUsable d n first before
  pub right : (page : ℕ) → IsInRun first n page → has_right before page ≡ true
  pub whole : (page word : ℕ) → IsInRun first n page → word < 4 → Since (TakenWholeHere page word) (KeptHere page) before

-- ---- what a claim without a deed gets and, where it fails, leaves
-- the page's deed word was read as another, or the page was lost or broken
abbrev pub MissedHere : Directory → ℕ → Made → List Made → Type 0
MissedHere d page m before = (ReadsDeed page m.step × (m.answer ≢ deed_word_of d)) ⊎ (LostRightHere d page m before ⊎ BrokenHere page m before)

-- These steps read the page as of the directory and got its right, which they have. They didn't make its deed, nor did they park it.
pub record GotOf (d : Directory) (page : ℕ) (xs : List Made) : Type 0 where
  pub right : has_right xs page ≡ true
  pub of : Once (OfHere d page) xs
  pub got : Once (GetsHere page) xs
  pub deeds : Always (MakesNoDeedHere page) xs
  pub parks : Always (ParksNotHere page) xs

-- These steps don't have the page's right, hold none of its grains, and didn't make its deed. They didn't park it either, or the page was read as of the
-- directory and then broken.
pub record LeftOrBroken (d : Directory) (page : ℕ) (xs : List Made) : Type 0 where
  pub right : has_right xs page ≡ false
  pub none : (g : ℕ) → g / 256 ≡ page → holds xs g ≡ false
  pub deeds : Always (MakesNoDeedHere page) xs
  pub parks : Always (ParksNotHere page) xs ⊎ (Once (OfHere d page) xs × Once (BrokenHere page) xs)
