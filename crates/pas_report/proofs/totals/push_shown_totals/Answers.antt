use Rattle.std.proofs.Common.{arith}
use Rattle.pas_records.proofs.Texts.{then_field}
use Rattle.pas_report.proofs.totals.push_shown_totals.Goals as goal

-- field by field, so deep as the line has fields
pub returns : goal.returns
returns g c = search (arith, then_field) depth 12
