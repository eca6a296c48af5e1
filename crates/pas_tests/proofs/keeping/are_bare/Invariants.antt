use Rattle.std.proofs.Common.{◌≡◌}
use Rattle.pas_tests.specs.Kept.{Looked}
use Rattle.pas_tests.proofs.keeping.are_bare.Given as goal

-- the pages so far were looked at
abbrev pub invariant-loop-before : goal.invariant-loop-before
invariant-loop-before g l = let D = g.D.Desk in record {
  looked : Looked (D.standing l.fn.desk) (D.standing l.desk);
  home : D.home l.desk ≡ D.home l.fn.desk;
}
