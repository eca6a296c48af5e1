use Rattle.std.proofs.Common.{◌≡◌, ◌++◌, List, length}
use Rattle.pas_segregated.specs.declared.slots.Slots.{Slots}
use Rattle.pas_cache.specs.{Changes.StopsEach, Parts.Releases}
use Rattle.pas_cache.proofs.stopping.stop_all.Given as goal

-- those from the last one on are stopped
abbrev pub invariant-loop-last : goal.invariant-loop-last
invariant-loop-last g l = let D = g.D.Desk in record {
  stopped : List Slots;
  whole : l.fn.locals.items ≡ l.locals.items ++ stopped;
  releases : Releases (StopsEach stopped) l.fn.locals.items l.locals.items (D.standing l.fn.desk) (D.standing l.desk);
  spare : D.spare_of l.desk ≡ D.spare_of l.fn.desk;
  home : D.home l.desk ≡ D.home l.fn.desk;
}

abbrev pub decreases-loop-last : goal.decreases-loop-last
decreases-loop-last g l = length l.locals.items
