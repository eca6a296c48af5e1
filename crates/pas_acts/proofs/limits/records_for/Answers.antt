use Rattle.std.proofs.Common.{List, ap, length, arith}
use Rattle.pas_acts.proofs.{Common.{length-map, ops_of}, PlanFacts.plan_phases}
use Rattle.pas_trace.specs.{Plans.phases_of as phases_in_order, declared.plan.Phase.Phase}
use Rattle.pas_acts.proofs.limits.records_for.Goals as goal

pub overflow_cast-as_slice : goal.overflow_cast-as_slice
overflow_cast-as_slice c =
    let n = ap (λ (ps : List Phase). length ps) c.as_slice.ensures in
    omega (arith, n, length-map (phases_in_order c.args.plan.now.phases) ops_of, plan_phases c.requires.2 c.requires.1)
