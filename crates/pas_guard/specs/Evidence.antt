-- What shows that a run can't be guarded, over the steps of one call, the newest first, from the view v on. A run has an outer page at each end and k
-- pages between them.
use Rattle.std.specs.Prelude.{ℕ, ◌+◌, ◌/◌, ◌≡◌, ◌⊎◌, true, List, ◌++◌}
use Rattle.pas_profile.specs.declared.{directory.Directory.Directory, word.Word.Word}
use Rattle.pas_scan.specs.Runs.{IsInRun}
use Rattle.pas_steps.specs.{Views.{View, holds}, Past.Once, declared.step.{Made.Made, Step.TheVariants.Look}}
use Rattle.pas_large.specs.Evidence.{HasBad, AllUsable, HasFailed}

-- the backed word of the page was read so while all grains of the page were the actor's
abbrev pub BackedReadHere : View → ℕ → ℕ → Made → List Made → Type 0
BackedReadHere v page answer m before = (m.step ≡ Look (Word.Backed page)) × (m.answer ≡ answer) × ((g : ℕ) → g / 256 ≡ page → holds (before ++ v) g ≡ true)

-- all grains of the pages of the run, its outer ones among them, were the actor's
abbrev pub HoldsRunWhole : View → ℕ → ℕ → List Made → Type 0
HoldsRunWhole v k first before = (g : ℕ) → IsInRun first (k + 2) (g / 256) → holds (before ++ v) g ≡ true

-- .. as backed, of one of the two outer pages of the run, while the actor held the run whole: so each page of it had its deed by then
abbrev pub OuterBackedHere : View → ℕ → ℕ → Made → List Made → Type 0
OuterBackedHere v k first m before = HoldsRunWhole v k first before × (BackedReadHere v first 1 m before ⊎ BackedReadHere v (first + k + 1) 1 m before)

-- the run has a page that was read as not usable, or was lost or broken, or an outer page that was read as backed while the run was held whole
abbrev pub IsBad : View → Directory → ℕ → ℕ → List Made → Type 0
IsBad v d k first steps = HasBad d (k + 2) first steps ⊎ Once (OuterBackedHere v k first) steps

-- All pages of the run had been read as usable. Then one of them was lost or broken, or an outer one was read as backed while the run was held whole.
abbrev pub OuterFailsHere : View → Directory → ℕ → ℕ → Made → List Made → Type 0
OuterFailsHere v d k first m before = AllUsable d (k + 2) first before × OuterBackedHere v k first m before

abbrev pub HasFailedOnce : View → Directory → ℕ → ℕ → List Made → Type 0
HasFailedOnce v d k first steps = HasFailed d (k + 2) first steps ⊎ Once (OuterFailsHere v d k first) steps
