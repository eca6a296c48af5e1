use Rattle.std.proofs.Common.{◌-◌, set, sym, subst, length-set}
use Rattle.pas_replay.{proofs.{Common.{cached, Indexes, IsAt, after_settling}, ByActors.{noted_back, settle_turn}}, specs.Sessions.hand_at}
use Rattle.pas_replay.proofs.seats.settle.Goals as goal

pub returns-clause-threads : goal.returns-clause-threads
returns-clause-threads c = length-set c.args.actors.now.caches.items (c.args.actor - 1) c.settle_by.new.cache

pub returns-clause-so_far : goal.returns-clause-so_far
returns-clause-so_far c desk table out r more (taken, (p, at)) =
    let q = after_settling p c.args.actor in
    let done = settle_turn c.args.actor _ _ c.requires.some c.requires.thread c.index_mut-cache.ensures.value c.settle_by.ensures.cache at in
    let back = noted_back _ c.args.actors.now.indexes.len (cached c.index_mut-cache.result.now).noted c.deref_mut.ensures.value c.deref_mut.ensures.len c.settle_by.ensures.indexes in
    (taken, (q, subst (λ (ix : Indexes). IsAt r more (record (hand_at desk c.args.actors.now table out) { caches = set c.args.actors.now.caches.items (c.args.actor - 1) c.settle_by.new.cache; indexes = ix }) q) (sym back) done))
