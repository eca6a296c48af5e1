-- The log is as it was, and the requests so far leave room for the others.
use Rattle.std.proofs.Common.{◌*◌, ◌+◌, ◌-◌, ◌≡◌}
use Rattle.pas_steps.specs.Desks.{CanCall}
use Rattle.pas_cache.specs.Caches.{cached}
use Rattle.pas_trials.specs.Borrowing.{RestsWithRoom}
use Rattle.pas_trials.proofs.paging.borrow_pages.Given as goal

abbrev pub invariant-loop-done : goal.invariant-loop-done
invariant-loop-done g l = record {
  log : (cached l.cache).log ≡ (cached l.initial.cache).log;
  can : CanCall (g.D.Desk.standing l.desk)
      (RestsWithRoom (g.D.Desk.standing l.desk).seat.profile (cached l.cache) (2 * (l.blocks - l.done) + 5) (g.D.Desk.spare_of l.desk));
}
