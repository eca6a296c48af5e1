use Rattle.pas_bits.proofs.Rows.{lowest_set}
use Rattle.pas_bits.proofs.row_search.first_set.Goals as goal

pub returns-then-bits-ne0 : goal.returns-then-bits-ne0
returns-then-bits-ne0 c =
    lowest_set c.args.words.now c.loop-word.word (λ word. (c.type_inv.words word).fits) c.if-bits-ne0.true c.loop-word.invariant
