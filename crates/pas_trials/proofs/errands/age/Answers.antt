use Rattle.pas_trials.proofs.Going.{stopped_then, ticked}
use Rattle.pas_trials.proofs.errands.age.Goals as goal

pub returns-clause-goes : goal.returns-clause-goes
returns-clause-goes g c = stopped_then c.requires.log c.stop.ensures.stops (ticked c.args.epoch c.tick.result c.tick.ensures.makes)
