use Rattle.std.proofs.Common.{◌+◌, ◌-◌, ◌≡◌, ◌≤◌}
use Rattle.pas_search.proofs.PagesThatServe.{PassesDeeds}
use Rattle.pas_search.proofs.bare.search_bare.Given as goal

abbrev pub invariant-loop-from : goal.invariant-loop-from
invariant-loop-from g l =
    let D = g.D.Desk in
    record {
      low : 1 ≤ l.from;
      passes : PassesDeeds l.from (D.standing l.fn.desk) (D.standing l.desk);
      home : D.home l.desk ≡ D.home l.fn.desk;
    }

abbrev pub decreases-loop-from : goal.decreases-loop-from
decreases-loop-from g l = (l.pages + 1) - l.from
