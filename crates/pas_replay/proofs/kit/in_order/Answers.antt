use Rattle.std.proofs.Common.{List, ◌++◌, subst}
use Rattle.pas_replay.proofs.Common.{records_in, Record, Shows, InOrder}
use Rattle.pas_replay.proofs.kit.in_order.Goals as goal

pub in_order_to-requires-clause-plan : goal.in_order_to-requires-clause-plan
in_order_to-requires-clause-plan g c =
    let plan = c.requires.plan in
    (plan.0, c.args.plan.now, record { short = plan.1; read = plan.2; same = c.course.ensures; fits = c.requires.kit; room = c.requires.room })

-- a taker that keeps all takes nothing
pub returns : goal.returns
returns g c =
    let plan = c.requires.plan in
    let shown = c.in_order_to.ensures in
    subst (λ (told : List Record). Shows InOrder c.args.plan.now (told ++ records_in c.in_order_to.new.out) c.in_order_to.result) shown.1
    (shown.2 plan.0 c.args.plan.now (record { short = plan.1; read = plan.2; same = c.course.ensures; fits = c.requires.kit; room = c.requires.room }))
