use Rattle.pas_trials.proofs.Going.{stopped_then}
use Rattle.pas_trials.proofs.errands.scavenge.Goals as goal

pub returns-clause-goes : goal.returns-clause-goes
returns-clause-goes g c = stopped_then c.requires.log c.stop.ensures.stops c.pass.ensures.passes.calls
