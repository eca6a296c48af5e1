use Rattle.std.proofs.Common.{ap}
use Rattle.pas_cache.{specs.Caches.Cached, proofs.FlushesAndFrees.{clear_call, flushes_log, rests_open}}
use Rattle.pas_cache.proofs.cache.ThreadCache.flush.Goals as goal

pub flush-requires-clause-entries : goal.flush-requires-clause-entries
flush-requires-clause-entries g c = (rests_open c.self.view_is c.requires.can).met.entries

pub flush-requires-clause-can : goal.flush-requires-clause-can
flush-requires-clause-can g c = clear_call c.requires.can

pub invariant_of-self : goal.invariant_of-self
invariant_of-self g c = record { one_each = c.self.invariant.one_each; formed = c.self.invariant.formed; ranges = c.flush.ensures.flushes.ranges c.self.invariant.ranges }

pub returns-clause-flushes : goal.returns-clause-flushes
returns-clause-flushes g c =
    let old : Cached = record { locals = c.self.inside.locals.items; log = c.self.inside.log; noted = c.self.inside.noted.items; idle_since = c.self.inside.idle_since } in
    rw (← c.self.view_is) (flushes_log old _ c.flush.new.ended.items (ap (λ x. record old { log = x; noted = c.flush.new.ended.items }) c.flush.ensures.empty) c.flush.ensures.flushes)
