use Rattle.pas_records.proofs.MarksAtRest.{backed_after}
use Rattle.pas_report.proofs.laws.backed_pages_are_shown.Goals as goal

pub returns : goal.returns
returns c = backed_after
