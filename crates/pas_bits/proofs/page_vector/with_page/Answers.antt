use Rattle.std.proofs.Common.{◌%◌, ap, ◌∙◌, bit_or}
use Rattle.pas_bits.{specs.Bits.has_bit, proofs.PageVectors.page_added}
use Rattle.pas_bits.proofs.page_vector.with_page.Goals as goal

pub returns : goal.returns
returns c p same = ap (λ m. has_bit (bit_or c.args.word m) (p % 64)) c.page_mask.ensures ∙ page_added c.args.word c.args.page p same
