use Rattle.std.proofs.Common.{◌≡◌, ◌+◌, ◌*◌, ◌-◌}
use Rattle.pas_scan.specs.Runs.{large_directory}
use Rattle.pas_guard.proofs.Seeks.{Sought}
use Rattle.pas_guard.proofs.seeking.seek_run.Given as goal

-- each run that begins below page `from` can't be guarded, the pages from there to below `next` were read as usable, and those below `free` are held
abbrev pub invariant-loop-next : goal.invariant-loop-next
invariant-loop-next g l = let D = g.D.Desk in record {
  so_far : Sought (large_directory l.heap) l.pages l.from l.free l.next (D.standing l.fn.desk) (D.standing l.desk);
  home : D.home l.desk ≡ D.home l.fn.desk;
}

abbrev pub decreases-loop-next : goal.decreases-loop-next
decreases-loop-next g l = 2 * (g.D.Desk.standing l.fn.desk).seat.profile.pages + 4 - (l.from + l.next)
