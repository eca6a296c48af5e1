use Rattle.std.proofs.Common.{arith}
use Rattle.pas_shared.proofs.closing.close_bench.Goals as goal

pub returns : goal.returns
returns c =
    search arith
