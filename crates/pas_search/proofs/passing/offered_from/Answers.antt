use Rattle.pas_search.proofs.ToldVisits.{open_bit}
use Rattle.pas_search.proofs.passing.offered_from.Goals as goal

pub returns-clause-offered : goal.returns-clause-offered
returns-clause-offered c b lt = open_bit c.args.word c.pages_below.result c.args.block c.args.next b c.pages_below.type_inv c.pages_below.ensures lt
