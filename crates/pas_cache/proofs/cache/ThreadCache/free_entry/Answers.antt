use Rattle.std.proofs.Common.{arith, ◌≡◌, refl, ap, subst}
use Rattle.pas_profile.specs.declared.profile.Profile.{Profile}
use Rattle.pas_cache.{specs.{Contents.CacheOf, Names.IsFaultOf}, proofs.FlushesAndFrees.{flush_call, frees, refuses, rests_open}}
use Rattle.pas_cache.proofs.cache.ThreadCache.free_entry.Goals as goal

pub log_entry-requires-clause-room : goal.log_entry-requires-clause-room
log_entry-requires-clause-room g c =
    let log : c.self.inside.log ≡ c.args.self.now.contents.log = ap (λ (x : CacheOf). x.contents.log) c.self.view_is in
    rw log (λ full. search arith)

pub log_entry-requires-clause-can : goal.log_entry-requires-clause-can
log_entry-requires-clause-can g c = flush_call (rests_open c.self.view_is c.requires.can)

pub invariant_of-self : goal.invariant_of-self
invariant_of-self g c = record { one_each = c.self.invariant.one_each; formed = c.self.invariant.formed; ranges = c.log_entry.ensures.logs.ranges c.self.invariant.ranges }

pub returns-clause-frees : goal.returns-clause-frees
returns-clause-frees g c = search (arith, frees)

pub returns-in-Err-clause-frees : goal.returns-in-Err-clause-frees
returns-in-Err-clause-frees g c = refuses _ _ _ c.in-Err.fault (subst (λ (f : Profile). IsFaultOf f c.args.entry.name c.in-Err.fault) c.profile.ensures c.in-Err.ensures) refl
