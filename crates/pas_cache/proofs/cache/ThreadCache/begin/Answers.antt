use Rattle.pas_cache.proofs.FlushesAndFrees.{begins}
use Rattle.pas_cache.proofs.cache.ThreadCache.begin.Goals as goal

pub returns-clause-begins : goal.returns-clause-begins
returns-clause-begins g c = rw (← c.self.view_is) (begins _ c.look-self-inside.result c.look-self-inside.ensures.makes)
