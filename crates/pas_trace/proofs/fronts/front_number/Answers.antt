use Rattle.std.proofs.Common.{arith}
use Rattle.pas_trace.proofs.FrontLines.{one-found}
use Rattle.pas_trace.proofs.fronts.front_number.Goals as goal

pub returns-then-text-le57 : goal.returns-then-text-le57
returns-then-text-le57 c = one-found c.args.text.now c.args.end (omega arith) (omega arith) (omega arith) (omega arith)
