use Rattle.pas_guard.proofs.Guarded.{can_give_inner, can_leave_low, can_leave_high, guards}
use Rattle.pas_guard.proofs.guarding.guard_run.Goals as goal

pub give_run-block-requires-clause-can : goal.give_run-block-requires-clause-can
give_run-block-requires-clause-can g c = can_give_inner c.args.directory c.args.first c.args.pages c.requires.can

pub leave-requires-clause-can : goal.leave-requires-clause-can
leave-requires-clause-can g c = can_leave_low c.args.directory c.args.first c.args.pages c.give_run-block.result c.give_run-block.ensures.gives c.requires.can

pub leave-requires-2-clause-can : goal.leave-requires-2-clause-can
leave-requires-2-clause-can g c = can_leave_high _ c.args.first c.args.pages _ c.give_run-block.ensures.gives c.leave.ensures.leaves c.requires.can

pub returns-clause-guards : goal.returns-clause-guards
returns-clause-guards g c = guards c.args.directory c.args.first c.args.pages _ c.give_run-block.ensures.gives c.leave.ensures.leaves c.leave-2.ensures.leaves
