use Rattle.std.proofs.Common.{◌*◌, ◌-◌, ◌≡◌}
use Rattle.pas_cache.specs.Caches.{cached}
use Rattle.pas_trials.proofs.Borrowed.{BorrowsSoFar}
use Rattle.pas_trials.proofs.storming.borrow_many.Given as goal

-- the requests so far leave room for the others
abbrev pub invariant-loop-done : goal.invariant-loop-done
invariant-loop-done g l = BorrowsSoFar (cached l.initial.cache) (cached l.cache) (g.D.Desk.standing l.initial.desk) (g.D.Desk.standing l.desk)
    (2 * (l.blocks - l.done)) (g.D.Desk.spare_of l.desk)
    × (g.D.Desk.home l.desk ≡ g.D.Desk.home l.initial.desk)
