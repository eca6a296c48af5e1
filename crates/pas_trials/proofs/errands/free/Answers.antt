use Rattle.pas_cache.specs.Caches.{cached}
use Rattle.pas_trials.proofs.Going.{log_flushed}
use Rattle.pas_trials.proofs.errands.free.Goals as goal

pub returns-clause-goes : goal.returns-clause-goes
returns-clause-goes g c = log_flushed (cached c.args.cache.now) c.flush.ensures.flushes
