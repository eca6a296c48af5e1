-- What the actors of a storm have.
use Rattle.pas_cache.specs.Caches.{Cached, cached}
use Rattle.pas_trials.specs.declared.errands.Hands.{Hands}

-- what the cache of the hands contains
abbrev pub cache_of : Hands → Cached
cache_of hands = cached hands.cache
