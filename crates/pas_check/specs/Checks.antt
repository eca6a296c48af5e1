-- How far the check of a plan has come, and what its acts do to that.
use Rattle.std.specs.{Prelude.{ℕ, ◌+◌, ◌^◌, ◌<◌, ◌≤◌, ◌≡◌, ◌≢◌, Bool, true, false, List, [], ◌∷◌, ◌++◌, length, map, MatchOption}, List.AllByRecursion}
use Rattle.pas_profile.specs.declared.profile.Profile.{Profile}
use Rattle.pas_machine.specs.Machines.{profile_of}
use Rattle.pas_trace.specs.Acts.{Act, Operates, Guards, Settles, Ticks, MakesPass, ReadsEpoch, StopsIdle, MarksPhase, Wakes, MarksClose, Ends, Lowers}
use Rattle.pas_trace.specs.{Asked.{keeper_in, request_in}, EveryPlan.{IsActorOf, IsBelow, IsSoundWhat}, declared.{item.Request.Request, plan.Op.Op}}
use Rattle.pas_trace.specs.declared.plan.{Plan.Plan, What.What}
use Rattle.pas_check.specs.{Bounds.FitsRequest, Leading.{Fails, Leads}, Tables.{logs_held, names_held}, Tasks.Stands, States.{Does, Reports, Stand, at_first}}
use Rattle.pas_check.specs.declared.{acting.Judge.Judge, cutting.Cursor.Cursor}

-- ---- what a judge has room for
abbrev pub threads_in : Judge → ℕ
threads_in judge = (profile_of judge.machine).threads

-- a log and an epoch for each thread of the region
pub record IsSized (judge : Judge) : Type 0 where
  pub logs : logs_held judge.logs ≡ threads_in judge + 1
  pub idle_since : length judge.idle_since.items ≡ threads_in judge + 1

-- .. as much as another one, in the same region
pub record IsSizedAs (old new : Judge) : Type 0 where
  pub profile : profile_of new.machine ≡ profile_of old.machine
  pub logs : logs_held new.logs ≡ logs_held old.logs
  pub idle_since : length new.idle_since.items ≡ length old.idle_since.items
  pub names : names_held new.names ≡ names_held old.names

-- ---- operations of a plan
-- the actor may make the operation, after some others, its names are below the limit, and its keeper, if it is guarded, is another actor
pub record IsPlanned (f : Profile) (limit : ℕ) (op : Op) : Type 0 where
  pub actor : IsActorOf f op.what op.actor
  pub sound : (asked : List ℕ) × IsSoundWhat f asked op.what
  pub named : IsBelow limit op.what
  pub kept : MatchOption (keeper_in op.what) (Unit {0}) (λ keeper. (op.actor < keeper) × (keeper < 2 ^ 8))

abbrev pub ArePlanned : Profile → ℕ → List Op → Type 0
ArePlanned f limit ops = AllByRecursion (IsPlanned f limit) ops

-- ---- acts whose numbers fit their places
abbrev pub IsThread : ℕ → Type 0
IsThread k = (0 < k) × (k < 2 ^ 8)

-- the request fits in its heap, and in whichever it is made
abbrev pub FitsHeaps : Profile → ℕ → Request → Type 0
FitsHeaps f k r = (r.heap < 32) × ((heap : ℕ) → heap < 32 → FitsRequest f k (record r { heap = heap }))

abbrev pub FitsWhat : Profile → ℕ → What → Type 0
FitsWhat f k what = MatchOption (request_in what) (Unit {0}) (FitsHeaps f k)

abbrev pub FitsAct : Profile → Act → Type 0
FitsAct f (Operates op) = IsThread op.actor × FitsWhat f op.actor op.what
FitsAct f (Guards keeper op) = IsThread op.actor × FitsWhat f op.actor op.what × IsThread keeper × (keeper ≢ op.actor)
FitsAct f (Settles k) = Unit {0}
FitsAct f (Ticks e) = e < 2 ^ 64
FitsAct f MakesPass = Unit {0}
FitsAct f ReadsEpoch = Unit {0}
FitsAct f (StopsIdle k n) = IsThread k
FitsAct f (MarksPhase n) = n < 2 ^ 32
FitsAct f (Wakes k) = Unit {0}
FitsAct f MarksClose = Unit {0}
FitsAct f (Ends k) = IsThread k
FitsAct f (Lowers keeper) = IsThread keeper

abbrev pub AllFit : Profile → List Act → Type 0
AllFit f acts = AllByRecursion (FitsAct f) acts

-- ---- the check goes on
abbrev pub opening : Cursor
opening = record { bytes = 0; lines = 0 }

-- The lines up to the cursor lead from the first state to where these acts are left, and the report: nothing is due, and the judge stands for it.
pub record IsSoFar (f : Profile) (text : List ℕ) (first : Stand) (judge : Judge) (at : Cursor) (acts : List Act) : Type 0 where
  pub stand : Stand
  pub led : Leads f text first opening stand at
  pub stands : Stands f judge stand at
  pub due : stand.due ≡ []
  pub left : stand.left ≡ map Does acts ++ Reports ∷ []
  pub fit : AllFit f acts

-- These acts are left then; or a line can't be taken, where memory wasn't wanting for a guard.
abbrev pub SoTaken : Profile → List ℕ → Stand → Judge → Cursor → List Act → Bool → Type 0
SoTaken f text first new to left true = IsSoFar f text first new to left
SoTaken f text first new to left false = new.lacks_memory ≡ false → Fails f text first opening to.lines

-- Where these acts are the next ones, their lines lead to where the others are, whatever follows them.
pub record TakenTo (text : List ℕ) (old : Judge) (from : Cursor) (new : Judge) (to : Cursor) (acts left : List Act) (taken : Bool) : Type 0 where
  pub far : (more : List Act) (f : Profile) (first : Stand) → IsSoFar f text first old from (acts ++ more) → SoTaken f text first new to (left ++ more) taken

-- ---- the check begins
-- the judge stands before the first line of the plan's transcripts, with room for its threads and its names
pub record IsOpened (plan : Plan) (judge : Judge) : Type 0 where
  pub profile : profile_of judge.machine ≡ plan.profile
  pub stands : Stands plan.profile judge (at_first plan) opening
  pub sized : IsSized judge
  pub names : names_held judge.names ≡ plan.names_limit
  pub few : plan.names_limit ≤ 2 ^ 32
