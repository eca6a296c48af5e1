use Rattle.std.proofs.Common.{refl, ◌∙◌, arith}
use Rattle.pas_large.proofs.Gives.{left_run_none, can_leave_next, left_run_more}
use Rattle.pas_large.proofs.giving.leave_run.Goals as goal

pub loop-page-init : goal.loop-page-init
loop-page-init g c = record { so_far = left_run_none c.args.directory c.args.first; home = refl }

pub leave-requires-clause-can : goal.leave-requires-clause-can
leave-requires-clause-can g c = can_leave_next c.args.end c.loop-page.invariant.so_far c.loop-page.auto.page c.loop-page-test.true c.requires.can

pub loop-page-preserved : goal.loop-page-preserved
loop-page-preserved g c = let i = c.loop-page.invariant in
    record { so_far = left_run_more c.loop-page.auto.page i.so_far c.leave.ensures.leaves; home = c.leave.ensures.home ∙ i.home }

pub returns-clause-leaves : goal.returns-clause-leaves
returns-clause-leaves g c = search (arith, c.loop-page.auto.page-end)
