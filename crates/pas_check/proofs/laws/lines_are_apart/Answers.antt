use Rattle.pas_check.proofs.Readings.{one_line}
use Rattle.pas_check.proofs.laws.lines_are_apart.Goals as goal

pub returns : goal.returns
returns c = one_line
