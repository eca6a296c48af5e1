use Rattle.std.proofs.Common.{arith}
use Rattle.pas_bits.proofs.MovedMasks.{moved_down_is}
use Rattle.pas_bits.proofs.mask.Mask4.moved_down.Goals as goal

pub returns : goal.returns
returns c = search (arith, moved_down_is)
