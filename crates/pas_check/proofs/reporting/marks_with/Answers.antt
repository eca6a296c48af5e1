use Rattle.std.proofs.Common.{arith}
use Rattle.pas_report.proofs.MarkBits.{marks_are}
use Rattle.pas_check.proofs.reporting.marks_with.Goals as goal

pub returns : goal.returns
returns c = search (arith, marks_are)
