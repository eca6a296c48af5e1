use Rattle.pas_segregated.specs.Stops.{class_directory}
use Rattle.pas_trials.proofs.Firsts.{can_search}
use Rattle.pas_trials.proofs.racing.RefillFirstJobAnswer.perform.Goals as goal

pub refill-requires-clause-can : goal.refill-requires-clause-can
refill-requires-clause-can c = can_search c.args.desk.now (class_directory 0 0) c.requires.may.no_steps c.requires.may.room
