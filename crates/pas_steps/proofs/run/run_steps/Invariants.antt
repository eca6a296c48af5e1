-- The words are those of the steps so far, and of each actor the newest epoch that it read is kept.
use Rattle.pas_steps.{specs.States.profile_of, proofs.Running.IsSoFar}
use Rattle.pas_steps.proofs.run.run_steps.Given as goal

abbrev pub invariant-loop-actor : goal.invariant-loop-actor
invariant-loop-actor l = IsSoFar (profile_of l.fn.state) l.fn.list l.actor-index l.state l.epochs
