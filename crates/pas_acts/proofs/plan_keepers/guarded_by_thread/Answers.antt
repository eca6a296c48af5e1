use Rattle.std.proofs.Common.{◌<◌, List, subst, sym, ap}
use Rattle.pas_acts.proofs.{Common.{AllByRecursion, Op}, Making.phase_at}
use Rattle.pas_acts.proofs.plan_keepers.guarded_by_thread.Goals as goal

pub count_guarded-requires-clause-actors : goal.count_guarded-requires-clause-actors
count_guarded-requires-clause-actors g c =
    let own = phase_at g.P.Operations.ops (λ (op : Op). op.actor < 17) c.args.phases.now c.loop-phase.phase-index c.phase-item.result c.requires.actors c.loop-phase-test.true in
    subst (λ (ops : List Op). AllByRecursion (λ (op : Op). op.actor < 17) ops) (ap g.P.Operations.ops (sym c.phase-item.is)) own
