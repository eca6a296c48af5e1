-- The search for a run whose outer pages aren't backed.
use Rattle.std.specs.Prelude.{ℕ, ◌+◌, ◌*◌, ◌/◌, ◌<◌, ◌≤◌, ◌≡◌, ◌≢◌, ◌⊎◌, Bool, true, false, MatchBool, ◌∷◌, [], List, length, Option, MatchOption}
use Rattle.pas_profile.specs.declared.{directory.Directory.Directory, profile.Profile.Profile, word.Word.Word}
use Rattle.pas_steps.specs.{Agreement.Agreed, Calls.{Leads, nothing, Does}, Desks.{Standing, AnyView, Adds}, Kinds.{Kinds, LookBacked, Only}, Past.Once}
use Rattle.pas_steps.specs.{Past.{Always, Since}, Views.{View, holds, has_right, known_deed}, declared.step.{Made.Made, Step.TheVariants.Look}}
use Rattle.pas_large.specs.{Claims.{in_span, LacksAll, StaysPut}, Finds.{MayFind, finding}, Pages.{GotPages, OnlyDeedsShow}, Evidence.{AllUsable, DeedsOf}}
use Rattle.pas_large.specs.Evidence.{DeedsRise, IsTakenRun}
use Rattle.pas_search.specs.Kinds.{ReturnsDuly}
use Rattle.pas_guard.specs.{Guarded.LeavesGuard, Evidence.{BackedReadHere, IsBad, HasFailedOnce}}

-- ---- the looks at the outer pages
abbrev pub backed_looks : Kinds
backed_looks = LookBacked ∷ []

abbrev pub ZeroBackedHere : ℕ → Made → List Made → Type 0
ZeroBackedHere page m before = (m.step ≡ Look (Word.Backed page)) × (m.answer ≡ 0)

abbrev pub SomeBackedHere : ℕ → Made → List Made → Type 0
SomeBackedHere page m before = (m.step ≡ Look (Word.Backed page)) × (m.answer ≢ 0)

-- both pages were read as not backed, or one of them wasn't
pub record LooksBacked (low high : ℕ) (desk desk' : Standing) (bare : Bool) : Type 0 where
  pub steps : List Made
  pub adds : Adds desk desk' AnyView steps
  pub kinds : Only backed_looks steps
  pub few : length steps ≤ 2
  pub outcome : MatchBool bare (Once (ZeroBackedHere low) steps
      × Once (ZeroBackedHere high) steps) (Once (SomeBackedHere low) steps ⊎ Once (SomeBackedHere high) steps)

-- ---- the search
-- a later step moves no grain of the page and doesn't back it
abbrev pub LeftSince : ℕ → Made → List Made → Type 0
LeftSince page m before = LeavesGuard page m

-- all grains of the page are the actor's, who knows its deed
pub record HoldsWhole (page : ℕ) (v : View) : Type 0 where
  pub held : (g : ℕ) → g / 256 ≡ page → holds v g ≡ true
  pub known : known_deed v page ≢ 0

-- the pages from `first` to below `stop`, which weren't the actor's, are
pub record HasSpan (d : Directory) (first stop : ℕ) (v w : View) : Type 0 where
  pub got : GotPages (in_span first stop) d v w
  pub lacked : (p : ℕ) → in_span first stop p ≡ true → has_right v p ≡ false

abbrev pub seeking : Kinds
seeking = LookBacked ∷ finding

-- The run is the actor's. Its pages were read as usable and then taken whole, with rights that were kept since, and its outer pages were read as not
-- backed while they were held: so it didn't break. Each lower run can't be guarded, and each deed is of a page of this run or of a lower one that failed.
pub record SoughtRun (f : Profile) (d : Directory) (k : ℕ) (steps : List Made) (first : ℕ) : Type 0 where
  pub of_region : (1 ≤ first) × (first + (k + 2) ≤ f.pages + 1)
  pub got : Leads f (MayFind d) (HasSpan d first (first + (k + 2))) steps
  pub usable : AllUsable d (k + 2) first steps
  pub taken : (v : View) → MayFind d v → Agreed f v steps → IsTakenRun d (k + 2) first steps
  pub bare : (v : View) → MayFind d v → Agreed f v steps
      → Since (BackedReadHere v first 0) (LeftSince first) steps × Since (BackedReadHere v (first + k + 1) 0) (LeftSince (first + k + 1)) steps
  pub lower : (v : View) → MayFind d v → Agreed f v steps → (other : ℕ) → 1 ≤ other → other < first → IsBad v d k other steps
  pub deeds : (v : View) → MayFind d v → Agreed f v steps
      → DeedsOf d (k + 2) (λ other. (other ≡ first) ⊎ ((other < first) × HasFailedOnce v d k other steps)) steps

-- No run can be guarded, and all is as it was but for the deeds, each of a page of a run that failed.
pub record SoughtNone (f : Profile) (d : Directory) (k : ℕ) (steps : List Made) : Type 0 where
  pub still : Leads f (MayFind d) (Does nothing) steps
  pub bad : (v : View) → MayFind d v → Agreed f v steps → (first : ℕ) → 1 ≤ first → first + (k + 2) ≤ f.pages + 1 → IsBad v d k first steps
  pub deeds : (v : View) → MayFind d v → Agreed f v steps → DeedsOf d (k + 2) (λ other. HasFailedOnce v d k other steps) steps
  pub lacks : LacksAll steps

-- At most 71 steps for each page of the region, and two more. Deeds are made from the lowest page up. No page is given up, taken back or hinted but one that
-- the search got, none is hinted but one that it read as backed and empty, and no grain is put but one that it took. No step moves a grain of a page that was
-- held whole before.
pub record Seeks (d : Directory) (k : ℕ) (desk desk' : Standing) (found : Option ℕ) : Type 0 where
  pub steps : List Made
  pub adds : Adds desk desk' (MayFind d) steps
  pub kinds : Only seeking steps
  pub rise : DeedsRise steps
  pub returns : Always ReturnsDuly steps
  pub shows : OnlyDeedsShow desk.seat.profile steps
  pub few : length steps ≤ 71 * desk.seat.profile.pages + 2
  pub steady : (v : View) → MayFind d v → Agreed desk.seat.profile v steps → (page : ℕ) → HoldsWhole page v → (g : ℕ) → g / 256 ≡ page → StaysPut g steps
  pub outcome : MatchOption found (SoughtNone desk.seat.profile d k steps) (SoughtRun desk.seat.profile d k steps)
