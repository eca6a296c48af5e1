-- WHAT IS KNOWN OF AN ACT of a replay in the order of the text, and what it owes by that.
use Rattle.std.specs.{Prelude.{ℕ, ◌≤◌, ◌≡◌, List, length, Some, MatchOption}, List.AllByRecursion}
use Rattle.pas_profile.specs.{Profiles.{IsValid, IsAdmitted}, Requests.route_in, declared.{directory.Route.Route, profile.Profile.Profile}}
use Rattle.pas_steps.specs.Lists.{Legal}
use Rattle.pas_large.specs.Doors.{Indexes}
use Rattle.pas_trace.specs.{Acts.Act, Asked.{request_in, keeper_in}, declared.plan.What.What}
use Rattle.pas_answers.specs.{Answers.Progress, Indexes.{ActIsNamedBy, AllAreNamedBy, indexes_after}, Reaching.Reaches, Rests.AllAtRest}
use Rattle.pas_same_text.specs.{State.World, Order.acts_on, Same.IsSame, Acts.{IsTaken, HasUsableBlocks, AreEndsStamped}, Seats.{IsActOf, AreSeated}}

-- ---- who acts, and what is asked for
-- the operation's request is one that the profile admits, if it asks for anything
abbrev pub IsAdmittedWhat : Profile → What → Type 0
IsAdmittedWhat f what = MatchOption (request_in what) (Unit {0}) (λ r. IsAdmitted f r.size r.align r.heap)

-- .. and it is one for whole pages, which this keeper guards
abbrev pub IsGuardedWhat : Profile → ℕ → What → Type 0
IsGuardedWhat f keeper what = (keeper_in what ≡ Some keeper) × MatchOption (request_in what) (Unit {0}) (λ r. route_in f r.size r.align ≡ Route.Large)

abbrev pub AsksAdmitted : Profile → Act → Type 0
AsksAdmitted f (Act.Operates op) = IsAdmittedWhat f op.what
AsksAdmitted f (Act.Guards keeper op) = IsAdmittedWhat f op.what × IsGuardedWhat f keeper op.what
AsksAdmitted f act = Unit {0}

-- The act may be one of a plan for this region with so many threads: it is one of theirs, of the scavenger's or of a keeper's, and asks for what is admitted.
abbrev pub IsPlanned : ℕ → Profile → Act → Type 0
IsPlanned threads f act = IsActOf threads f act × AsksAdmitted f act

abbrev pub ArePlanned : ℕ → Profile → List Act → Type 0
ArePlanned threads f acts = AllByRecursion (IsPlanned threads f) acts

-- ---- between two acts
-- The text's state is that of the replay, with a cache for each thread, its indexes hold these ranges, only keepers have guards up, each live block
-- lies on grains that its page's blocks may cover, and each page where a block ended is stamped.
pub record IsCarried (threads : ℕ) (f : Profile) (p : Progress) (w : World) (indexes : Indexes) : Type 0 where
  pub same : IsSame f p w
  pub many : threads ≤ length w.caches
  pub seated : AreSeated threads f p
  pub usable : HasUsableBlocks p
  pub stamped : AreEndsStamped p.list
  pub indexes_are : w.indexes ≡ indexes

-- ---- an act
-- It takes the replay from p to p', and so it is before it. For a request for whole pages the run was named that the index of its heap names.
pub record IsKnown (threads : ℕ) (f : Profile) (act : Act) (p p' : Progress) (w : World) (indexes : Indexes) : Type 0 where
  pub planned : IsPlanned threads f act
  pub taken : IsTaken f act p p' w
  pub seated : AreSeated threads f p
  pub usable : HasUsableBlocks p
  pub stamped : AreEndsStamped p.list
  pub indexes_are : w.indexes ≡ indexes
  pub named : ActIsNamedBy f indexes act p p' taken.advances

-- THE DEBT of an act: the state that the function comes to is that of the replay, with its indexes
pub record IsKept (threads : ℕ) (f : Profile) (act : Act) (p p' : Progress) (w : World) (indexes : Indexes) (known : IsKnown threads f act p p' w indexes) : Type 0 where
  pub same : IsSame f p' (acts_on f act w)
  pub indexes_are : (acts_on f act w).indexes ≡ indexes_after f act p p' known.taken.advances indexes

abbrev pub KeepsSame : ℕ → Profile → Act → Type 0
KeepsSame threads f act = (p p' : Progress) (w : World) (indexes : Indexes) (known : IsKnown threads f act p p' w indexes) → IsKept threads f act p p' w indexes known

-- ---- several
-- They take a legal replay from p to p', all actors are at rest before the first of them and after each, and as much is known of each.
pub record AreKnown (threads : ℕ) (f : Profile) (acts : List Act) (p p' : Progress) (is : Reaches f acts p p') (indexes : Indexes) : Type 0 where
  pub valid : IsValid f
  pub legal : Legal f p'.list
  pub rests : AllAtRest threads f acts p p' is
  pub named : AllAreNamedBy f indexes acts p p' is
