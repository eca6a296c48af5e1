-- What the calls of a trial leave behind, so that the next one may come.
use Rattle.std.specs.Prelude.{ℕ, ◌<◌, ◌≤◌, ◌≡◌, ◌≢◌, Bool, true, false, Option, None, Some, MatchOption, List, ◌++◌}
use Rattle.pas_profile.specs.declared.directory.Directory.{Directory}
use Rattle.pas_steps.specs.{Views.{View, has_right, KnowsDeed}, Lists.Whole, Calls.{Leads, Calls}, Desks.{Standing, Adds, AnyView}, Evidence.DeedHere}
use Rattle.pas_steps.specs.{Past.Once, declared.step.Made.Made}
use Rattle.pas_plain.specs.{Plain.{profile_of, actor_of, PassStands}, Seats.{region_of, pass_of, DeskStands}, declared.desk.PlainDesk.PlainDesk}
use Rattle.pas_plain.specs.declared.pass.PlainPass.{PlainPass}
use Rattle.pas_rights.specs.Leaves.{MayLeave}
use Rattle.pas_scan.specs.{Marks.is_marked, Scan.{NoneOffered, IsFirstOffered, IsFirstBare, IsVerdict}}
use Rattle.pas_trials.specs.declared.wanting.Findings.{Findings}

-- ---- calls
-- where the test is true, the right of the page is the actor's, and its deed is known
abbrev pub MayLeaveIf : Bool → ℕ → Directory → View → Type 0
MayLeaveIf true page d v = MayLeave page d v
MayLeaveIf false page d v = Unit {0}

-- where steps of a leave were counted, the right isn't the actor's
abbrev pub LeftIf : ℕ → ℕ → View → Type 0
LeftIf steps page v = 0 < steps → has_right v page ≡ false

-- where there is no answer, the page isn't of the directory. Otherwise it is, and where the answer is true, its right is the actor's
abbrev pub Answered : Option Bool → ℕ → Directory → View → Type 0
Answered None page d v = KnowsDeed page d v → ⊥
Answered (Some got) page d v = KnowsDeed page d v × (got ≡ true → has_right v page ≡ true)

-- a call made some steps, after which each view that met the one condition meets the other
pub record Brings (desk desk' : Standing) (Before After : View → Type 0) : Type 0 where
  pub steps : List Made
  pub calls : Calls desk desk' Before (λ v w. After w) steps

-- The page was asked for, and three searches followed, with what their steps show: a search of offered pages from page 1 on, one of pages
-- without a deed from the page on, and a verdict in which no page is left out.
pub record Wants (page : ℕ) (d : Directory) (desk desk' : Standing) (found : Findings) : Type 0 where
  pub asked : List Made
  pub offers : List Made
  pub bares : List Made
  pub judged : List Made
  pub adds : Adds desk desk' AnyView (judged ++ (bares ++ (offers ++ asked)))
  pub claimed : Leads desk.seat.profile AnyView (λ v w. Answered found.claimed page d w) asked
  pub offered : MatchOption found.offered (NoneOffered desk.seat.profile d 1 offers) (IsFirstOffered desk.seat.profile d 1 offers)
  pub bare : MatchOption found.bare ((p : ℕ) → page ≤ p → p ≤ desk.seat.profile.pages → Once (DeedHere p) bares) (IsFirstBare desk.seat.profile page bares)
  pub marks : List ℕ
  pub none : (p : ℕ) → is_marked marks p ≡ false
  pub verdict : IsVerdict desk.seat.profile marks d judged found.verdict

-- ---- two actors at one region
-- the desk and the pass of another actor stand for one list
pub record Beside (desk : PlainDesk) (pass : PlainPass) : Type 0 where
  pub view : View
  pub whole : Whole
  pub stood : DeskStands desk view whole
  pub rests : PassStands (profile_of (region_of desk)) pass whole
  pub other : actor_of (pass_of desk) ≢ actor_of pass
