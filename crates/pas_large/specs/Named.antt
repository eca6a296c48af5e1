-- The claim of the run that a door names.
use Rattle.std.specs.Prelude.{ℕ, ◌+◌, ◌*◌, ◌≤◌, ◌≡◌, true, List, [], length, Option, None, Some, MatchOption}
use Rattle.pas_profile.specs.declared.{directory.Directory.Directory, profile.Profile.Profile}
use Rattle.pas_scan.specs.Runs.{IsInRun}
use Rattle.pas_steps.specs.{Calls.{Leads, nothing, Does}, Desks.{Standing, Adds}, Kinds.Only, Past.{Once, Always}, declared.step.Made.Made}
use Rattle.pas_search.specs.Kinds.{ReturnsDuly}
use Rattle.pas_large.specs.{Claims.{in_span, LacksAll, HoldsSpan}, Evidence.{MissedHere, GotOf, LeftOrBroken}, Finds.MayFind, Pages.{GotPages, OnlyDeedsShow}}
use Rattle.pas_large.specs.Pages.{claiming_old}

-- The run that was named is of the region, and it is the actor's: the right of each page was got, and each free word was taken whole since. At most
-- six steps a page.
pub record HoldsNamed (f : Profile) (d : Directory) (n : ℕ) (found : Option ℕ) (steps : List Made) (first : ℕ) : Type 0 where
  pub named : found ≡ Some first
  pub of_region : (1 ≤ first) × (first + n ≤ f.pages + 1)
  pub got : Leads f (MayFind d) (GotPages (in_span first (first + n)) d) steps
  pub of : (p : ℕ) → in_span first (first + n) p ≡ true → GotOf d p steps
  pub holding : HoldsSpan first (first + n) steps
  pub few : length steps ≤ 6 * n

-- how many steps a request for n pages makes at most with a run that doesn't serve: none where none was named
abbrev pub missed_steps : Option ℕ → ℕ → ℕ
missed_steps None n = 0
missed_steps (Some first) n = 48 * n

-- All is as it was, and a page that was parked was read as of the directory and broken. Where no run was named no step was made, and where one of the region
-- was, a page of it was missed.
pub record MissesNamed (f : Profile) (d : Directory) (n : ℕ) (found : Option ℕ) (steps : List Made) : Type 0 where
  pub unnamed : found ≡ None → steps ≡ []
  pub missed : (first : ℕ) → found ≡ Some first → 1 ≤ first → first + n ≤ f.pages + 1 → (page : ℕ) × IsInRun first n page × Once (MissedHere d page) steps
  pub still : Leads f (MayFind d) (Does nothing) steps
  pub lacks : LacksAll steps
  pub left : (p : ℕ) → LeftOrBroken d p steps
  pub few : length steps ≤ missed_steps found n

-- No deed is made, and no page is given up, taken back or hinted but one that the claim got.
pub record ClaimsNamed (d : Directory) (n : ℕ) (found : Option ℕ) (desk desk' : Standing) (result : Option ℕ) : Type 0 where
  pub steps : List Made
  pub adds : Adds desk desk' (MayFind d) steps
  pub old : Only claiming_old steps
  pub returns : Always ReturnsDuly steps
  pub shows : OnlyDeedsShow desk.seat.profile steps
  pub outcome : MatchOption result (MissesNamed desk.seat.profile d n found steps) (HoldsNamed desk.seat.profile d n found steps)
