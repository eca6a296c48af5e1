use Rattle.std.proofs.Common.{arith}
use Rattle.pas_trace.proofs.FrontLines.{free-first}
use Rattle.pas_trace.proofs.fronts.front_free.Goals as goal

pub returns : goal.returns
returns c version = search (arith, free-first)
