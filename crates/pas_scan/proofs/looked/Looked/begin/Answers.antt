use Rattle.pas_scan.proofs.Reading.{marked_none}
use Rattle.pas_scan.proofs.looked.Looked.begin.Goals as goal

pub returns-clause-unfit : goal.returns-clause-unfit
returns-clause-unfit c = marked_none
