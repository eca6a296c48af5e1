use Rattle.std.proofs.Common.{◌*◌, ◌-◌, ◌≤◌}
use Rattle.pas_steps.specs.{Clear.HasNothing, Desks.CanCall}
use Rattle.pas_bestfit_run.proofs.churning.churn.Given as goal

-- the actor has nothing, and there is room for the requests that are left
abbrev pub invariant-loop-done : goal.invariant-loop-done
invariant-loop-done g l = record {
  can : CanCall (g.D.Desk.standing l.desk) HasNothing;
  room : 4 * (1000 - l.done) ≤ g.D.Desk.spare_of l.desk;
}
