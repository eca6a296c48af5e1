use Rattle.std.proofs.Common.{ℕ, ◌≡◌, ◌||◌, ◌==◌, ◌+◌, drop, arith}
use Rattle.pas_acts.proofs.{Common.is_active, Making.active_next}
use Rattle.pas_acts.proofs.awake.active_in.Goals as goal

pub loop-place-preserved : goal.loop-place-preserved
loop-place-preserved g c =
    let op = c.op-op.result in
    let ops = g.P.Operations.ops c.args.phase.now in
    let i = c.loop-place.place in
    let next : (k : ℕ) → is_active (drop i ops) k ≡ ((op.actor == k) || is_active (drop (i + 1) ops) k) =
    λ k. active_next k op ops i (omega (arith, c.loop-place-test.true, c.count-place-end.ensures)) c.op-op.ensures in
    search (arith, next)
