use Rattle.std.proofs.Common.{◌-◌, refl, sym, arith, append-nil, length-set}
use Rattle.pas_replay.proofs.{Turning.{may_take_seat, somewhere}, ByActors.{rests_now, act_turn}}
use Rattle.pas_replay.proofs.seats.wake.Goals as goal

pub take_seat-requires : goal.take_seat-requires
take_seat-requires c = may_take_seat c.args.desk.now c.args.actors.now c.args.actor (omega (arith, c.requires.thread)) c.requires.so_far.2.2

pub begin-requires : goal.begin-requires
begin-requires c =
    let so = c.requires.so_far.2.2.1 in
    record { rests = (_, _, _, _, so.0, rests_now _ c.requires.some c.requires.thread refl refl c.take_seat.ensures c.index_mut-cache.ensures.value so.1) }

pub returns-clause-threads : goal.returns-clause-threads
returns-clause-threads c = length-set c.args.actors.now.caches.items (c.args.actor - 1) c.begin.new.cache

pub returns-clause-so_far : goal.returns-clause-so_far
returns-clause-so_far c table out r more (taken, (p, at)) =
    let did = c.begin.ensures.begins _ _ out _ p (rests_now _ c.requires.some c.requires.thread refl refl c.take_seat.ensures
    c.index_mut-cache.ensures.value at) in
    somewhere (act_turn _ c.requires.some c.requires.thread (λ limit asked fit. fit) (λ indexes p q is. (refl, tt)) c.take_seat.ensures
    c.index_mut-cache.ensures.value at did.0 (omega arith) (sym (append-nil _)) refl)
