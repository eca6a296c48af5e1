use Rattle.std.proofs.Common.{◌&&◌, refl, arith, bit_and}
use Rattle.pas_bits.proofs.{MovedMasks.words_are, Words.bit_of_and}
use Rattle.pas_bits.proofs.mask.Mask4.both.Goals as goal

pub returns : goal.returns
returns c = words_are bit_and (λ s t. s && t) bit_of_and refl c.args.self.now c.args.other.now (omega arith) (omega arith)
