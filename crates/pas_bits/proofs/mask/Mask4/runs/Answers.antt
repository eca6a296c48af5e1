use Rattle.std.proofs.Common.{arith}
use Rattle.pas_bits.proofs.MovedMasks.{runs_longer}
use Rattle.pas_bits.proofs.mask.Mask4.runs.Goals as goal

pub loop-length-preserved : goal.loop-length-preserved
loop-length-preserved c = let i = c.loop-length.invariant in record {
  some = omega (arith, i.some);
  most = omega arith;
  so_far = runs_longer c.args.self.now c.loop-length.runs c.moved_down.result c.both-runs.result c.loop-length.length c.min-by.result (omega arith) i.so_far c.moved_down.ensures c.both-runs.ensures;
}
