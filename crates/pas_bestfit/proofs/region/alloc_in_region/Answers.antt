use Rattle.std.proofs.Common.{arith}
use Rattle.pas_bestfit.proofs.Shortest.{in_region}
use Rattle.pas_bestfit.proofs.region.alloc_in_region.Goals as goal

pub returns-clause-allocates : goal.returns-clause-allocates
returns-clause-allocates g c =
    let bytes = c.args.size in
    in_region c.args.heap bytes c.max.result c.alloc_best.result (omega (arith, c.max.ensures, c.div_ceil.ensures)) c.alloc_best.ensures.allocates
