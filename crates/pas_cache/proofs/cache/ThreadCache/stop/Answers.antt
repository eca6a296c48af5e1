use Rattle.std.proofs.Common.{arith, [], refl, ap, ◌∙◌}
use Rattle.pas_cache.{specs.Caches.Cached, proofs.FlushesAndFrees.{clear_call, flushes_log, flushed_call, stops_cache, rests_open, none_twice, none_formed}}
use Rattle.pas_cache.proofs.cache.ThreadCache.stop.Goals as goal

pub flush-requires-clause-entries : goal.flush-requires-clause-entries
flush-requires-clause-entries g c = (rests_open c.self.view_is c.requires.can).met.entries

pub flush-requires-clause-can : goal.flush-requires-clause-can
flush-requires-clause-can g c = clear_call c.requires.can

pub stop_all-requires : goal.stop_all-requires
stop_all-requires g c =
    let old : Cached = record { locals = c.self.inside.locals.items; log = c.self.inside.log; noted = c.self.inside.noted.items; idle_since = c.self.inside.idle_since } in
    let mid : Cached = record old { log = []; noted = c.flush.new.ended.items } in
    record { can = flushed_call old mid (flushes_log old mid c.flush.new.ended.items refl c.flush.ensures.flushes) (rests_open c.self.view_is c.requires.can) }

pub invariant_of-self : goal.invariant_of-self
invariant_of-self g c = search (arith, none_twice, none_formed)

pub returns-clause-stops : goal.returns-clause-stops
returns-clause-stops g c =
    let old : Cached = record { locals = c.self.inside.locals.items; log = c.self.inside.log; noted = c.self.inside.noted.items; idle_since = c.self.inside.idle_since } in
    let noted = c.flush.new.ended.items in
    let mid : Cached = record old { log = []; noted = noted } in
    rw (← c.self.view_is) (stops_cache old mid _ (flushes_log old mid noted refl c.flush.ensures.flushes) c.stop_all.ensures.stops refl
    (ap (λ x. record old { locals = x; log = c.flush.new.log; noted = noted }) c.stop_all.ensures.empty ∙ ap (λ x. record old { locals = []; log = x; noted = noted }) c.flush.ensures.empty))
