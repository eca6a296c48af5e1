use Rattle.std.proofs.Common.{◌≡◌}
use Rattle.pas_steps.specs.Desks.{CanCall}
use Rattle.pas_tests.specs.Kept.{MayKeep}
use Rattle.pas_tests.proofs.keeping.keep.Given as goal

-- there is place and room for the requests that are left
abbrev pub invariant-loop-round : goal.invariant-loop-round
invariant-loop-round g l = let D = g.D.Desk in record {
  can : CanCall (D.standing l.desk) (MayKeep (D.standing l.desk).seat.profile l.book l.out l.round l.rounds (D.spare_of l.desk));
  seat : (D.standing l.desk).seat ≡ (D.standing l.fn.desk).seat;
  home : D.home l.desk ≡ D.home l.fn.desk;
}
