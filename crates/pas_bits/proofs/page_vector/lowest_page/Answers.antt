use Rattle.std.proofs.Common.{arith}
use Rattle.pas_bits.proofs.PageVectors.{no_page, lowest_found}
use Rattle.pas_bits.proofs.page_vector.lowest_page.Goals as goal

pub returns-then-rest-eq0 : goal.returns-then-rest-eq0
returns-then-rest-eq0 c = no_page c.args.word c.args.number c.args.next c.saturating_sub-low.result c.saturating_sub-low.ensures c.if-rest-eq0.true

pub returns : goal.returns
returns c = search (arith, lowest_found)
