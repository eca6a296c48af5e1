use Rattle.std.proofs.Common.{◌≡◌, ◌≤◌, ◌+◌, ◌-◌}
use Rattle.pas_scan.specs.Runs.{large_directory}
use Rattle.pas_large.proofs.Finds.{SearchedRuns, IsFirstAlone}
use Rattle.pas_large.proofs.finding.find_run.Given as goal

-- where no other actor made a step meanwhile no claim fails, so none was made; no run that begins below page `from` can serve, and the pages from there to below `next` were read as usable
abbrev pub invariant-loop-first : goal.invariant-loop-first
invariant-loop-first g l = let D = g.D.Desk in record {
  low : 1 ≤ l.from;
  so_far : SearchedRuns (large_directory l.heap) l.pages l.from l.next (D.standing l.fn.desk) (D.standing l.desk);
  alone : IsFirstAlone (D.standing l.fn.desk).seat.profile (large_directory l.heap) so_far.steps;
  home : D.home l.desk ≡ D.home l.fn.desk;
}

abbrev pub decreases-loop-first : goal.decreases-loop-first
decreases-loop-first g l = (g.D.Desk.standing l.fn.desk).seat.profile.pages + 2 - l.from
