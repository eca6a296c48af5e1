use Rattle.pas_records.proofs.MarksAtRest.{rights_shown}
use Rattle.pas_report.proofs.laws.rights_are_shown.Goals as goal

pub returns : goal.returns
returns c = rights_shown
