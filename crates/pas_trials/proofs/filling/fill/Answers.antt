use Rattle.pas_trials.proofs.Firsts.{given_directory, given_of_region, can_stop, with_stop}
use Rattle.pas_trials.proofs.filling.fill.Goals as goal

pub stop_where-requires-clause-directory : goal.stop_where-requires-clause-directory
stop_where-requires-clause-directory g c = given_of_region (given_directory c.in-Ok.ensures.refills.outcome) c.in-Ok.ensures.refills c.requires.directory

pub stop_where-requires-clause-can : goal.stop_where-requires-clause-can
stop_where-requires-clause-can g c = can_stop (given_directory c.in-Ok.ensures.refills.outcome) c.in-Ok.ensures.refills c.requires.can

pub returns : goal.returns
returns g c = record { steps = with_stop (given_directory c.in-Ok.ensures.refills.outcome) c.in-Ok.ensures.refills c.stop_where.ensures.steps }
