use Rattle.std.proofs.Common.{◌≡◌}
use Rattle.pas_rights.specs.Leaves.{MayLeave}
use Rattle.pas_trials.specs.Trials.{Brings}
use Rattle.pas_timing.proofs.steps.sharing.take_often.Given as goal

-- the takes so far, after which the right is still the actor's
abbrev pub invariant-loop-round : goal.invariant-loop-round
invariant-loop-round g l = let D = g.D.Desk in record {
  brings : Brings (D.standing l.fn.desk) (D.standing l.desk) (MayLeave l.page l.fn.directory) (MayLeave l.page l.fn.directory);
  home : D.home l.desk ≡ D.home l.fn.desk;
}
