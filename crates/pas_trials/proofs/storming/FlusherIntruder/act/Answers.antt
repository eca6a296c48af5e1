use Rattle.pas_plain.proofs.Desks.{acts_still}
use Rattle.pas_trials.proofs.storming.FlusherIntruder.act.Goals as goal

pub returns-then-may_end-clause-acts : goal.returns-then-may_end-clause-acts
returns-then-may_end-clause-acts g c = acts_still c.end_one.ensures.ends.flushes.calls
