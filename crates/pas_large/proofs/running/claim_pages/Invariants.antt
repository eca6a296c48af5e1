use Rattle.std.proofs.Common.{◌≡◌}
use Rattle.pas_large.proofs.Claims.{ClaimedBelow}
use Rattle.pas_large.proofs.running.claim_pages.Given as goal

-- the pages below this one are held
abbrev pub invariant-loop-page : goal.invariant-loop-page
invariant-loop-page g l = let D = g.D.Desk in record {
  below : ClaimedBelow l.deeds l.directory l.first l.page (D.standing l.fn.desk) (D.standing l.desk);
  home : D.home l.desk ≡ D.home l.fn.desk;
}
