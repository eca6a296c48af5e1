use Rattle.std.proofs.Common.{arith}
use Rattle.pas_threads.proofs.CrewSits.{leaves_next, leaves_go_on, leaves_end}
use Rattle.pas_threads.proofs.lending.let_lent_leave.Goals as goal

-- before the first turn nobody has left
pub loop-index-init : goal.loop-index-init
loop-index-init c = record {
  of = c.requires.of;
  far = λ s actors base p may. search arith;
}

pub let_leave-requires-clause-may : goal.let_leave-requires-clause-may
let_leave-requires-clause-may c =
    let r = c.requires.may in
    leaves_next c.index-lent-index.result c.loop-index-test.true r.4 (c.loop-index.invariant.far r.0 r.1 r.2 r.3 r.4)

pub loop-index-preserved : goal.loop-index-preserved
loop-index-preserved c = record {
  of = c.let_leave.ensures.of;
  far = λ s actors base p may. leaves_go_on c.index-lent-index.result c.loop-index-test.true may
      (c.loop-index.invariant.far s actors base p may) c.let_leave.new.worker c.loop-index.auto.lent c.let_leave.ensures.left;
}

pub returns-clause-left : goal.returns-clause-left
returns-clause-left c = λ s actors base p may. leaves_end c.loop-index-test.false c.loop-index.auto.lent may (c.loop-index.invariant.far s actors base p may)
