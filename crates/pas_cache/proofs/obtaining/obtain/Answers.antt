use Rattle.std.proofs.Common.{arith, sym, subst}
use Rattle.pas_cache.{specs.Locals.HasOneEach, proofs.{Resting.refill_same, Obtained.{obtain_rests, obtains_cached}}}
use Rattle.pas_cache.proofs.obtaining.obtain.Goals as goal

pub bring_cached-requires : goal.bring_cached-requires
bring_cached-requires g c = subst HasOneEach (sym c.deref_mut.ensures.value) c.requires.can.met.rest.apart.one_each

pub returns-then-bring_cached-clause-obtains : goal.returns-then-bring_cached-clause-obtains
returns-then-bring_cached-clause-obtains g c = search (arith, refill_same, obtains_cached, obtain_rests)
