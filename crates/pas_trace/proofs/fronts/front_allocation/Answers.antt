use Rattle.std.proofs.Common.{arith}
use Rattle.pas_trace.proofs.FrontLines.{allocation-first}
use Rattle.pas_trace.proofs.fronts.front_allocation.Goals as goal

pub returns : goal.returns
returns c version = search (arith, allocation-first)
