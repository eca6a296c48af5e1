use Rattle.std.proofs.Common.{arith}
use Rattle.pas_bestfit.proofs.Searched.{allocated}
use Rattle.pas_bestfit.proofs.allocating.alloc.Goals as goal

pub returns-clause-allocates : goal.returns-clause-allocates
returns-clause-allocates g c = allocated c.args.heap c.args.size c.max-grains.result c.alloc.result (omega (arith, c.max-grains.ensures, c.div_ceil.ensures)) c.alloc.ensures.allocates
