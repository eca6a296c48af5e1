use Rattle.std.proofs.Common.{◌≡◌}
use Rattle.pas_large.specs.Gives.{BacksRun}
use Rattle.pas_large.proofs.giving.back_run.Given as goal

-- the pages below this one are backed
abbrev pub invariant-loop-page : goal.invariant-loop-page
invariant-loop-page g l = let D = g.D.Desk in record {
  so_far : BacksRun l.fn.directory l.first l.page (D.standing l.fn.desk) (D.standing l.desk);
  home : D.home l.desk ≡ D.home l.fn.desk;
}
