use Rattle.std.{proofs.Common.{ap, ◌∙◌, bit_and, w64}, specs.Int.bit_not}
use Rattle.pas_bits.specs.PageVectors.{is_in_word}
use Rattle.pas_plain.proofs.ShortOnes.{page_cleared}
use Rattle.pas_plain.proofs.short.without_page.Goals as goal

pub returns : goal.returns
returns c p same = ap (λ m. is_in_word (bit_and c.args.word (bit_not w64 m)) p) c.page_mask.ensures ∙ page_cleared c.args.word c.args.page p same
