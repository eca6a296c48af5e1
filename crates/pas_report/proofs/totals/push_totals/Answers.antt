use Rattle.std.proofs.Common.{arith}
use Rattle.pas_report.proofs.totals.push_totals.Goals as goal

-- each count is what its call says it is
pub returns : goal.returns
returns g c = search arith
