use Rattle.std.proofs.Common.{arith}
use Rattle.pas_trace.proofs.Costs.{small_cost, large_cost}
use Rattle.pas_trace.proofs.requests.cost_of_allocation.Goals as goal

pub returns-then-size-le-MOST_BITFIT-clause-value : goal.returns-then-size-le-MOST_BITFIT-clause-value
returns-then-size-le-MOST_BITFIT-clause-value c = small_cost c.args.size (omega arith)

pub returns-else-size-le-MOST_BITFIT-clause-value : goal.returns-else-size-le-MOST_BITFIT-clause-value
returns-else-size-le-MOST_BITFIT-clause-value c = large_cost c.args.size (omega arith)
