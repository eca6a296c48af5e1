use Rattle.std.proofs.Common.{arith}
use Rattle.pas_bits.proofs.Masks.{mask_is, cut_le, ones_le}
use Rattle.pas_bits.proofs.run.run_word.Goals as goal

pub overflow_sub-result : goal.overflow_sub-result
overflow_sub-result c = search (arith, cut_le, ones_le)

pub returns : goal.returns
returns c b h = search (arith, mask_is)
