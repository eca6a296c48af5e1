use Rattle.pas_cache.proofs.FlushesAndFrees.{rests_empty}
use Rattle.pas_cache.proofs.cache.ThreadCache.new.Goals as goal

pub returns-clause-rest : goal.returns-clause-rest
returns-clause-rest c f v none = rests_empty f _ v c.new.ensures c.new-2.ensures none
