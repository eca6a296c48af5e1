use Rattle.std.proofs.Common.{if◌then◌else◌, ◌<◌, length, Bool, refl, ap, arith, eq-eqb}
use Rattle.pas_acts.proofs.{Common.{keeper_in, Op, one_guarded}, Making.{all_at, said_next, count_more}}
use Rattle.pas_acts.proofs.plan_keepers.count_guarded.Goals as goal

pub add-requires-clause-actor : goal.add-requires-clause-actor
add-requires-clause-actor g c =
    let op = c.op-op.result in
    let lt : c.loop-place.place < length (g.P.Operations.ops c.args.phase.now) = omega (arith, c.loop-place-test.true, c.count-place-end.ensures) in
    let actor = ap (λ (o : Op). o.actor) (c.op-op.ensures op) in
    omega (arith, actor, all_at (λ (o : Op). o.actor < 17) (g.P.Operations.ops c.args.phase.now) c.loop-place.place op c.requires.actors lt)

pub add-requires-clause-few : goal.add-requires-clause-few
add-requires-clause-few g c =
    let op = c.op-op.result in
    let ops = g.P.Operations.ops c.args.phase.now in
    let next = said_next op.actor op ops c.loop-place.place (omega (arith, c.loop-place-test.true, c.count-place-end.ensures)) c.op-op.ensures in
    let one = ap (λ (t : Bool). if t then one_guarded (keeper_in op.what) else 0) (eq-eqb op.actor op.actor refl) in
    omega (arith, c.loop-place.invariant.counts op.actor, next, one, c.requires.few op.actor, c.guarded_in.ensures)

pub loop-place-preserved : goal.loop-place-preserved
loop-place-preserved g c = search (arith, said_next, count_more)
