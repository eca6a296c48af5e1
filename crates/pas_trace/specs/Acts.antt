-- The acts of a plan, which a replay in the order of the text does one after the other. At the start of a phase stands its mark, from the second phase on, and
-- then each thread that has an operation in it reads the epoch. The operations follow in order. After the last phase stands a mark, and then each
-- thread is stopped, and in a guarded trace each keeper lowers its guards.
use Rattle.std.specs.{Prelude.{ℕ, zero, suc, ◌+◌, ◌==◌, Bool, false, ◌||◌, not, if◌then◌else◌, List, [], ◌∷◌, ◌++◌, map, Option, None, Some}, List.filter}
use Rattle.std.specs.List.{flat_map}
use Rattle.pas_profile.specs.declared.profile.Profile.{Profile}
use Rattle.pas_trace.specs.{Asked.{work_of, keeper_of, keeper_in}, EveryPlan.asked_after, Plans.ops_of, Reasons.actors_by, declared.plan.What.What}
use Rattle.pas_trace.specs.declared.plan.{Chore.Chore, Work.Work, Op.Op, Plan.Plan}

-- `Operates`: a thread's operation, after which the runs of large blocks that its cache noted are handed on (`Settles`). `Ticks` and `MakesPass`: those of
-- the scavenger. An idle operation is several acts: the scavenger reads the epoch, and then each thread that is idle in the phase is stopped, where it was
-- idle for so many epochs. What such a stop noted is handed on after the thread's next operation. `Guards`: a guarded request, by its keeper, which
-- lowers the guards of blocks that were ended and then raises one for it, and, where that finds no run, by its thread as any request. `Lowers`: a keeper lowers all its guards.
pub data Act : Type 0 where
  Operates : Op → Act
  Guards : ℕ → Op → Act
  Settles : ℕ → Act
  Ticks : ℕ → Act
  MakesPass : Act
  ReadsEpoch : Act
  StopsIdle : ℕ → ℕ → Act
  MarksPhase : ℕ → Act
  Wakes : ℕ → Act
  MarksClose : Act
  Ends : ℕ → Act
  Lowers : ℕ → Act

-- the operation of a thread that an act is
abbrev pub operation_in : Act → Option Op
operation_in (Operates op) = Some op
operation_in (Guards keeper op) = Some op
operation_in (Settles k) = None
operation_in (Ticks epoch) = None
operation_in MakesPass = None
operation_in ReadsEpoch = None
operation_in (StopsIdle k n) = None
operation_in (MarksPhase n) = None
operation_in (Wakes k) = None
operation_in MarksClose = None
operation_in (Ends k) = None
operation_in (Lowers keeper) = None

-- whose steps an act makes; a mark makes none. Those of a guarded request are its keeper's, and its thread's after them
abbrev pub stepper_of : Act → ℕ
stepper_of (Operates op) = op.actor
stepper_of (Guards keeper op) = op.actor
stepper_of (Settles k) = k
stepper_of (Ticks epoch) = 0
stepper_of MakesPass = 0
stepper_of ReadsEpoch = 0
stepper_of (StopsIdle k n) = k
stepper_of (MarksPhase n) = 0
stepper_of (Wakes k) = k
stepper_of MarksClose = 0
stepper_of (Ends k) = k
stepper_of (Lowers keeper) = keeper

-- the names that were asked for, after an act and after several
abbrev pub asked_after_operation : Option Op → List ℕ → List ℕ
asked_after_operation None asked = asked
asked_after_operation (Some op) asked = asked_after op.what asked

abbrev pub asked_after_act : Act → List ℕ → List ℕ
asked_after_act act asked = asked_after_operation (operation_in act) asked

abbrev pub asked_after_acts : List Act → List ℕ → List ℕ
asked_after_acts [] asked = asked
asked_after_acts (act ∷ acts) asked = asked_after_acts acts (asked_after_act act asked)

-- the thread has an operation among these
abbrev pub is_active : List Op → ℕ → Bool
is_active [] k = false
is_active (op ∷ ops) k = (op.actor == k) || is_active ops k

-- so many numbers from this one on
abbrev pub numbers_from : ℕ → ℕ → List ℕ
numbers_from k zero = []
numbers_from k (suc n) = k ∷ numbers_from (k + 1) n

-- those of so many threads of which this is so, in order
abbrev pub threads_where : (ℕ → Bool) → ℕ → List ℕ
threads_where chosen threads = filter chosen (numbers_from 1 threads)

-- those that have an operation in the phase, and those that are idle in it
abbrev pub active_threads : ℕ → List Op → List ℕ
active_threads threads ops = threads_where (is_active ops) threads

abbrev pub idle_threads : ℕ → List Op → List ℕ
idle_threads threads ops = threads_where (λ k. not (is_active ops k)) threads

-- the stops of these threads, where they were idle for n epochs
abbrev pub idle_stops : ℕ → List ℕ → List Act
idle_stops n idle = map (λ k. StopsIdle k n) idle

-- the acts of an operation, in a phase in which these threads are idle
abbrev pub acts_of_chore : List ℕ → Chore → List Act
acts_of_chore idle (Chore.Tick epoch) = Ticks epoch ∷ []
acts_of_chore idle Chore.Pass = MakesPass ∷ []
acts_of_chore idle (Chore.Idle n) = ReadsEpoch ∷ idle_stops n idle

-- that of a thread's operation, whose guard is kept by this actor, if it is guarded
abbrev pub act_kept : Option ℕ → Op → Act
act_kept None op = Operates op
act_kept (Some keeper) op = Guards keeper op

abbrev pub acts_of_work : List ℕ → Op → Work → List Act
acts_of_work idle op (Work.Own task) = act_kept (keeper_of task) op ∷ (Settles op.actor ∷ [])
acts_of_work idle op (Work.Chore chore) = acts_of_chore idle chore

abbrev pub acts_of_what : List ℕ → Op → What → List Act
acts_of_what idle op what = acts_of_work idle op (work_of what)

abbrev pub acts_of_op : List ℕ → Op → List Act
acts_of_op idle op = acts_of_what idle op op.what

abbrev pub acts_of_ops : List ℕ → List Op → List Act
acts_of_ops idle ops = flat_map (acts_of_op idle) ops

-- the acts of thread k's operations among those of a phase
abbrev pub own_acts : ℕ → List Op → List Act
own_acts k [] = []
own_acts k (op ∷ ops) = if op.actor == k then act_kept (keeper_in op.what) op ∷ (Settles op.actor ∷ own_acts k ops) else own_acts k ops

-- the acts of the scavenger's operations among those of a phase in which these threads are idle
abbrev pub scavenger_acts : List ℕ → List Op → List Act
scavenger_acts idle [] = []
scavenger_acts idle (op ∷ ops) = if op.actor == 0 then acts_of_op idle op ++ scavenger_acts idle ops else scavenger_acts idle ops

-- the acts of a phase of so many threads, after its mark
abbrev pub phase_acts : ℕ → List Op → List Act
phase_acts threads ops = map Wakes (active_threads threads ops) ++ acts_of_ops (idle_threads threads ops) ops

-- the close: a mark, the end of each thread, and the last sweep of each of so many keepers, which are the actors behind the threads
abbrev pub close_acts : ℕ → ℕ → List Act
close_acts threads keepers = MarksClose ∷ (map Ends (numbers_from 1 threads) ++ map Lowers (numbers_from (threads + 1) keepers))

-- the acts of the phases that are left, the first of which has this number
abbrev pub acts_from : ℕ → ℕ → ℕ → List (List Op) → List Act
acts_from threads keepers n [] = close_acts threads keepers
acts_from threads keepers n (phase ∷ phases) = MarksPhase n ∷ (phase_acts threads phase ++ acts_from threads keepers (n + 1) phases)

-- the acts of a plan of so many threads and keepers; its first phase begins without a mark
abbrev pub acts_of : ℕ → ℕ → List (List Op) → List Act
acts_of threads keepers [] = close_acts threads keepers
acts_of threads keepers (phase ∷ phases) = phase_acts threads phase ++ acts_from threads keepers 2 phases

-- ---- of a plan
-- how many actors its region has, beside the scavenger: a thread each, and in a guarded trace a keeper each for these threads
abbrev pub actors_of : Plan → ℕ
actors_of plan = actors_by plan.guard plan.profile.threads

-- the profile that its region is opened for: what is legal there, who sits there, and up to which actor records are arranged, goes by it. An actor of the
-- region is to it what a thread is to the trace
abbrev pub region_of : Plan → Profile
region_of plan = record plan.profile { threads = actors_of plan }

-- how many threads it has: they are its region's actors from 1 on, each has a cache, and they make its operations
abbrev pub threads_of : Plan → ℕ
threads_of plan = plan.profile.threads

-- how many keepers it has: they are its region's actors behind the threads, one for each of them in a guarded trace, and have no caches
abbrev pub keepers_of : Plan → ℕ
keepers_of plan = if plan.guard == 0 then 0 else plan.profile.threads

-- the acts that a replay of it does
abbrev pub acts_of_plan : Plan → List Act
acts_of_plan plan = acts_of (threads_of plan) (keepers_of plan) (map ops_of plan.phases.phases.items)
