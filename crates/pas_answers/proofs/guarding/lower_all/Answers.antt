use Rattle.pas_answers.proofs.Tries.{lowers_all}
use Rattle.pas_answers.proofs.guarding.lower_all.Goals as goal

pub returns-clause-lowers : goal.returns-clause-lowers
returns-clause-lowers g c = lowers_all c.sweep.ensures.sweeps c.sweep.ensures.room c.sweep.ensures.size
