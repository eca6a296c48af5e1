use Rattle.pas_scavenger.proofs.Examinations.{used_by_others}
use Rattle.pas_scavenger.proofs.laws.used_by_others.Goals as goal

pub returns : goal.returns
returns c = used_by_others
