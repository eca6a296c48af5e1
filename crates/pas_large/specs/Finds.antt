-- The search for a run that can be claimed.
use Rattle.std.specs.Prelude.{ℕ, ◌+◌, ◌*◌, ◌<◌, ◌≤◌, ◌≡◌, ◌⊎◌, Bool, true, false, ◌∷◌, ◌++◌, List, length, Option, None, MatchOption}
use Rattle.pas_profile.specs.declared.{directory.Directory.Directory, profile.Profile.Profile}
use Rattle.pas_steps.specs.{Calls.{Leads, nothing, Does}, Clear.IsClear, Desks.{Standing, Adds, triples}, Lists.{Whole, part, Legal}, Past.Always}
use Rattle.pas_steps.specs.{Unknown.unknown_pages, Kinds.{Kinds, LookFree, LookEligible, looking, Only}, Views.{View, has_right, known_deed, KnowsDeed}}
use Rattle.pas_steps.specs.declared.step.Made.{Made}
use Rattle.pas_large.specs.{Claims.{in_span, LacksAll}, Telling.{HasNoUsableRun, IsLowestRun}, Pages.{GotPages, OnlyDeedsShow, claiming}, Evidence.HasBad}
use Rattle.pas_large.specs.Evidence.{IsVain, HasFailed, DeedsOf, DeedsRise, IsTakenRun}
use Rattle.pas_search.specs.Kinds.{ReturnsDuly}

-- the actor is clear, and has no right of a page that is of the directory or whose deed it doesn't know
pub record MayFind (d : Directory) (v : View) : Type 0 where
  pub lacks : (p : ℕ) → (known_deed v p ≡ 0) ⊎ KnowsDeed p d v → has_right v p ≡ false
  pub clear : IsClear v

-- and there is room for the deeds that aren't known, and for n events more
pub record FindRoom (f : Profile) (d : Directory) (n spare : ℕ) (v : View) : Type 0 where
  pub may : MayFind d v
  pub room : n + unknown_pages f v ≤ spare

-- what the search does: it looks at pages, claims them, and gives back what it got
abbrev pub finding : Kinds
finding = LookEligible ∷ LookFree ∷ claiming

-- The run is the actor's. It was read as usable and then taken whole, and each lower run can't serve. Each deed is of a page of this run or of one
-- that failed, and above those of the deeds before it.
pub record FoundRun (f : Profile) (d : Directory) (n : ℕ) (steps : List Made) (first : ℕ) : Type 0 where
  pub of_region : (1 ≤ first) × (first + n ≤ f.pages + 1)
  pub got : Leads f (MayFind d) (GotPages (in_span first (first + n)) d) steps
  pub taken : IsTakenRun d n first steps
  pub lower : (other : ℕ) → 1 ≤ other → other < first → HasBad d n other steps
  pub deeds : DeedsOf d n (λ other. (other ≡ first) ⊎ HasFailed d n other steps) steps
  pub rise : DeedsRise steps

-- No run can serve, and all is as it was but for the deeds, each of a page of a run that failed, and above those of the deeds before it.
pub record FoundNone (f : Profile) (d : Directory) (n : ℕ) (steps : List Made) : Type 0 where
  pub still : Leads f (MayFind d) (Does nothing) steps
  pub vain : IsVain f d n steps
  pub deeds : DeedsOf d n (λ other. HasFailed d n other steps) steps
  pub rise : DeedsRise steps
  pub lacks : LacksAll steps

-- where no other actor made a step between these, they were looks alone
abbrev pub LooksAlone : Profile → Directory → List Made → Type 0
LooksAlone f d steps = (k : ℕ) (l : Whole) → Legal f (triples k steps ++ l) → MayFind d (part k l) → Only looking steps

-- On a desk that tells the whole state the run is the lowest usable one, and where none is found there is none, and all steps were looks.
abbrev pub IsToldFind : Profile → Directory → ℕ → Whole → List Made → Option ℕ → Type 0
IsToldFind f d n l steps found = MatchOption found (HasNoUsableRun f d n l × Only looking steps) (IsLowestRun f d n l)

-- At most six looks at each page, and 48 steps for the claim of each. No page is given up, taken back or hinted but one that the search got. A run that was
-- read as usable fails only where another actor made a step meanwhile: where none did and no run was found, all steps were looks.
pub record Finds (d : Directory) (n : ℕ) (tells : Bool) (desk desk' : Standing) (found : Option ℕ) : Type 0 where
  pub steps : List Made
  pub adds : Adds desk desk' (MayFind d) steps
  pub kinds : Only finding steps
  pub returns : Always ReturnsDuly steps
  pub shows : OnlyDeedsShow desk.seat.profile steps
  pub few : length steps ≤ 54 * desk.seat.profile.pages
  pub outcome : MatchOption found (FoundNone desk.seat.profile d n steps) (FoundRun desk.seat.profile d n steps)
  pub looked : found ≡ None → LooksAlone desk.seat.profile d steps
  pub told : tells ≡ true → (v : View) (l : Whole) → desk.stands v l → MayFind d v → IsToldFind desk.seat.profile d n l steps found
