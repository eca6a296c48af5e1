use Rattle.pas_bits.proofs.Rows.{has_member}
use Rattle.pas_bits.proofs.row_search.all_zero.Goals as goal

pub returns-then-bits-ne0 : goal.returns-then-bits-ne0
returns-then-bits-ne0 c = has_member c.args.words.now c.loop-word.word (λ word. (c.type_inv.words word).fits) c.if-bits-ne0.true
