use Rattle.std.proofs.Common.{arith}
use Rattle.pas_bits.proofs.MovedMasks.{near_longer}
use Rattle.pas_bits.proofs.mask.Mask4.spread.Goals as goal

pub loop-length-preserved : goal.loop-length-preserved
loop-length-preserved c = let i = c.loop-length.invariant in record {
  some = omega (arith, i.some);
  most = omega arith;
  so_far = near_longer c.args.self.now c.loop-length.spread c.moved_up.result c.either-spread.result c.loop-length.length c.min-by.result (omega arith) i.so_far c.moved_up.ensures c.either-spread.ensures;
}
