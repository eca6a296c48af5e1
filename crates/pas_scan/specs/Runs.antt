-- What the search for a run of pages promises.
use Rattle.std.specs.Prelude.{ℕ, ◌+◌, ◌-◌, ◌*◌, ◌^◌, ◌<◌, ◌≤◌, ◌≡◌, ◌≢◌, Bool, MatchBool, List, [], ◌∷◌, length, Option, MatchOption}
use Rattle.pas_profile.specs.declared.{directory.{Directory.Directory, Kind.Kind}, profile.Profile.Profile, word.Word.Word}
use Rattle.pas_steps.specs.{Views.all_ones, Desks.{Standing, AnyView, Adds}, Past.Once, Kinds.{Kinds, LookFree, LookDeed, LookEligible, Only}}
use Rattle.pas_steps.specs.declared.step.{Made.Made, Step.TheVariants.Look}
use Rattle.pas_scan.specs.Usable.{DeedReadHere, ReadUsable, UnusableHere}

-- the directory of the large pages of a heap
abbrev pub large_directory : ℕ → Directory
large_directory heap = record { heap = heap; kind = Kind.Large }

-- what the search does: it looks at deed words, at eligible words and at free words
abbrev pub page_looks : Kinds
page_looks = LookDeed ∷ LookEligible ∷ LookFree ∷ []

-- ---- one page
-- a look at a free word of the page, with this answer
abbrev pub FreeLookHere : ℕ → ℕ → Made → List Made → Type 0
FreeLookHere page word m before = (m.step ≡ Look (Word.Free page word)) × (m.answer ≡ all_ones)

abbrev pub UsedLookHere : ℕ → Made → List Made → Type 0
UsedLookHere page m before = (word : ℕ) × (word < 4) × (m.step ≡ Look (Word.Free page word)) × (m.answer ≢ all_ones) × (m.answer < 2 ^ 64)

pub record LooksFree (page : ℕ) (desk desk' : Standing) (free : Bool) : Type 0 where
  pub steps : List Made
  pub adds : Adds desk desk' AnyView steps
  pub kinds : Only page_looks steps
  pub few : length steps ≤ 4
  pub outcome : MatchBool free ((word : ℕ) → word < 4 → Once (FreeLookHere page word) steps) (Once (UsedLookHere page) steps)

-- the page was read as usable, or as not usable, and its deed word in any case
pub record ReadsUsable (d : Directory) (page : ℕ) (desk desk' : Standing) (usable : Bool) : Type 0 where
  pub steps : List Made
  pub adds : Adds desk desk' AnyView steps
  pub kinds : Only page_looks steps
  pub few : length steps ≤ 6
  pub deed : Once (DeedReadHere page) steps
  pub outcome : MatchBool usable (ReadUsable d page steps) (Once (UnusableHere d page) steps)

-- ---- runs
-- the page is one of the n from page `first` on
abbrev pub IsInRun : ℕ → ℕ → ℕ → Type 0
IsInRun first n page = (first ≤ page) × (page < first + n)

-- the run has a page that was read as not usable
abbrev pub HasUnusable : Directory → ℕ → ℕ → List Made → Type 0
HasUnusable d n first steps = (page : ℕ) × IsInRun first n page × Once (UnusableHere d page) steps

-- The lowest run from page `from` on all of whose pages were read as usable, those below `next` before these steps. The deed word of each page from
-- there up to its end was read.
pub record IsFirstRun (f : Profile) (d : Directory) (from next n : ℕ) (steps : List Made) (first : ℕ) : Type 0 where
  pub from_there : from ≤ first
  pub of_region : first + n ≤ f.pages + 1
  pub usable : (page : ℕ) → IsInRun first n page → next ≤ page → ReadUsable d page steps
  pub lower : (other : ℕ) → from ≤ other → other < first → HasUnusable d n other steps
  pub deeds : (page : ℕ) → next ≤ page → page < first + n → Once (DeedReadHere page) steps

-- each run from there on has a page that was read as not usable, and the deed word of each page from `next` on was read
pub record HasNoRun (f : Profile) (d : Directory) (from next n : ℕ) (steps : List Made) : Type 0 where
  pub runs : (first : ℕ) → from ≤ first → first + n ≤ f.pages + 1 → HasUnusable d n first steps
  pub deeds : (page : ℕ) → next ≤ page → page ≤ f.pages → Once (DeedReadHere page) steps

-- At most six looks at each page from `next` on that was read.
pub record FindsRun (d : Directory) (from next n : ℕ) (desk desk' : Standing) (found : Option ℕ) : Type 0 where
  pub steps : List Made
  pub adds : Adds desk desk' AnyView steps
  pub kinds : Only page_looks steps
  pub few : MatchOption found (length steps ≤ 6 * (desk.seat.profile.pages + 1 - next)) (λ first. length steps + 6 * next ≤ 6 * (first + n))
  pub outcome : MatchOption found (HasNoRun desk.seat.profile d from next n steps) (IsFirstRun desk.seat.profile d from next n steps)
