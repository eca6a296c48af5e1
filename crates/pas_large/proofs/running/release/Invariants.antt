use Rattle.std.proofs.Common.{◌≡◌}
use Rattle.pas_large.specs.Claims.{Releases}
use Rattle.pas_large.proofs.running.release.Given as goal

-- the pages below this one are left
abbrev pub invariant-loop-page : goal.invariant-loop-page
invariant-loop-page g l = let D = g.D.Desk in record {
  so_far : Releases l.directory l.first l.page (D.standing l.fn.desk) (D.standing l.desk);
  home : D.home l.desk ≡ D.home l.fn.desk;
}
