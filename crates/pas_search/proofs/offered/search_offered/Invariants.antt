use Rattle.std.proofs.Common.{◌+◌, ◌-◌, ◌≡◌, ◌≤◌}
use Rattle.pas_search.proofs.PagesThatServe.{TriesPages}
use Rattle.pas_search.proofs.offered.search_offered.Given as goal

-- the search so far, and no page from the next one on is marked
abbrev pub invariant-loop-looked : goal.invariant-loop-looked
invariant-loop-looked g l =
    let D = g.D.Desk in
    record {
      low : 1 ≤ l.looked.next;
      directory : l.looked.directory ≡ l.fn.looked.directory;
      tries : TriesPages (g.S.Serving.rule l.serving) l.fn.looked.directory l.looked.next l.looked.unfit (D.standing l.fn.desk) (D.standing l.desk);
      home : D.home l.desk ≡ D.home l.fn.desk;
    }

abbrev pub decreases-loop-looked : goal.decreases-loop-looked
decreases-loop-looked g l = (l.pages + 1) - l.looked.next
