use Rattle.std.proofs.Common.{◌≡◌}
use Rattle.pas_cache.specs.Caches.{cached}
use Rattle.pas_trials.specs.SharedStorms.{IsWorking}
use Rattle.pas_trials.proofs.shared_storm.Storm.end.Given as goal

abbrev pub invariant-loop-at : goal.invariant-loop-at
invariant-loop-at g l =
    let D = g.D.Desk in
    IsWorking (D.standing l.desk) (cached l.cache) l.room (D.forgotten (D.home l.desk)) × (D.home l.desk ≡ D.home l.fn.desk)
