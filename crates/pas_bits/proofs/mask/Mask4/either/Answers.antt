use Rattle.std.proofs.Common.{◌||◌, refl, arith, bit_or}
use Rattle.pas_bits.proofs.{MovedMasks.words_are, Words.bit_of_or}
use Rattle.pas_bits.proofs.mask.Mask4.either.Goals as goal

pub returns : goal.returns
returns c = words_are bit_or (λ s t. s || t) bit_of_or refl c.args.self.now c.args.other.now (omega arith) (omega arith)
