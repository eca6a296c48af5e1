use Rattle.pas_records.proofs.MarksAtRest.{empty_shown}
use Rattle.pas_report.proofs.laws.empty_pages_are_shown.Goals as goal

pub returns : goal.returns
returns c = empty_shown
