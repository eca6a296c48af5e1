use Rattle.std.proofs.Common.{◌≡◌}
use Rattle.pas_steps.specs.Desks.{AnyView, CanCall}
use Rattle.pas_timing.proofs.steps.repeating.repeat.Given as goal

abbrev pub invariant-loop-round : goal.invariant-loop-round
invariant-loop-round g l = let D = g.D.Desk in record {
  seat : (D.standing l.desk).seat ≡ (D.standing l.fn.desk).seat;
  can : CanCall (D.standing l.desk) AnyView;
  home : D.home l.desk ≡ D.home l.fn.desk;
}
