use Rattle.pas_segregated.proofs.WholeSlots.{rest_is}
use Rattle.pas_segregated.proofs.taking.rest_of.Goals as goal

pub returns : goal.returns
returns c = rest_is c.args.class c.args.got.now c.args.starts.now c.covered.result c.complement.result c.both.result c.covered.ensures c.complement.ensures c.both.ensures
