-- Plans in which nothing could run at once: in each phase one actor alone has operations.
use Rattle.std.specs.{Prelude.{ℕ, ◌≡◌, List}, List.AllByRecursion}
use Rattle.pas_steps.specs.Lists.{Whole}
use Rattle.pas_trace.specs.{Plans.IsPlanOf, declared.plan.{Op.Op, Plan.Plan}}
use Rattle.pas_records.specs.declared.record.Record.{Record}
use Rattle.pas_answers.specs.{Replays.{IsReplay, phases_of}, Ways.{Way, InOrder, IsOneOrder}}

-- all these operations are of one actor: a thread's, or the scavenger's
pub record AreOfOneActor (ops : List Op) : Type 0 where
  pub actor : ℕ
  pub own : AllByRecursion (λ (op : Op). op.actor ≡ actor) ops

-- so are those of each phase, whosever they are
abbrev pub HasOneActorAPhase : Plan → Type 0
HasOneActorAPhase plan = AllByRecursion AreOfOneActor (phases_of plan)

-- Of such a plan the list of a replay, on threads too, is that of the steps in the order of the acts: the list that a replay in the order of the text must have.
abbrev pub AloneIsInOrder : Type 0
AloneIsInOrder = (text : List ℕ) (plan : Plan) (way : Way) (whole : Whole) (records : List Record) → IsPlanOf text plan → HasOneActorAPhase plan → (replay : IsReplay way plan whole records) → IsOneOrder InOrder replay.reached.list whole
