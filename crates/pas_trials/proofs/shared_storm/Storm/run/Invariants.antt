use Rattle.std.proofs.Common.{◌≡◌}
use Rattle.pas_cache.specs.Caches.{cached}
use Rattle.pas_trials.specs.SharedStorms.{IsWorking}
use Rattle.pas_trials.proofs.shared_storm.Storm.run.Given as goal

abbrev pub invariant-loop-turn : goal.invariant-loop-turn
invariant-loop-turn g l =
    let D = g.D.Desk in
    IsWorking (D.standing l.desk) (cached l.cache) l.room (D.forgotten (D.home l.desk)) × (D.home l.desk ≡ D.home l.fn.desk)
