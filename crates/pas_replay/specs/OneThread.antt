-- A plan in which nothing could run at once: all its operations are those of one thread.
use Rattle.std.specs.{Prelude.◌≡◌, List.AllByRecursion}
use Rattle.pas_trace.specs.{EveryPlan.operations_of, declared.plan.{Op.Op, Plan.Plan}}
use Rattle.pas_answers.specs.Replays.{threads_of}

-- It has one thread, and each operation of each phase is thread 1's. So the scavenger, which is actor 0, has none: no tick, no pass, and no
-- idle operation.
pub record IsOfOneThread (plan : Plan) : Type 0 where
  pub unguarded : plan.guard ≡ 0
  pub threads : threads_of plan ≡ 1
  pub own : AllByRecursion (λ (op : Op). op.actor ≡ 1) (operations_of plan)
