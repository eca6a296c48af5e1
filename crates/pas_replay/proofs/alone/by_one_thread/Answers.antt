use Rattle.pas_replay.proofs.PlansOfOne.{shows_of_one}
use Rattle.pas_replay.proofs.alone.by_one_thread.Goals as goal

pub returns-clause-on_threads : goal.returns-clause-on_threads
returns-clause-on_threads g c = shows_of_one c.requires.plan.2 c.requires.alone c.in_order.ensures
