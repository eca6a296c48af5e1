use Rattle.std.proofs.Common.{arith}
use Rattle.pas_trace.proofs.FrontLines.{two-found}
use Rattle.pas_trace.proofs.fronts.front_pair.Goals as goal

pub returns : goal.returns
returns c = two-found c.args.text.now c.args.end (omega arith) (omega arith) (omega arith) (omega arith) (omega arith) (omega arith)
