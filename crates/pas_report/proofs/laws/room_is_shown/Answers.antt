use Rattle.pas_records.proofs.MarksAtRest.{room_shown}
use Rattle.pas_report.proofs.laws.room_is_shown.Goals as goal

pub returns : goal.returns
returns c = room_shown
