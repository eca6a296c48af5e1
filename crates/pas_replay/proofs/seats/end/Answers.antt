use Rattle.std.proofs.Common.{refl, sym, arith, append-nil}
use Rattle.pas_replay.proofs.{Turning.{may_take_seat, somewhere}, ByActors.{rests_now, act_turn}}
use Rattle.pas_replay.proofs.seats.end.Goals as goal

pub take_seat-requires : goal.take_seat-requires
take_seat-requires c = may_take_seat c.args.desk.now c.args.actors.now c.args.actor (omega (arith, c.requires.thread)) c.requires.so_far.1.2

pub end-requires : goal.end-requires
end-requires c =
    let so = c.requires.so_far.1.2.1 in
    record { rests = (_, _, _, so.0, rests_now _ c.requires.some c.requires.thread refl refl c.take_seat.ensures c.index_mut-cache.ensures.value so.1) }

pub returns-clause-cache : goal.returns-clause-cache
returns-clause-cache c = (c.end.new.cache, refl, c.end.ensures.empty)

pub returns-clause-so_far : goal.returns-clause-so_far
returns-clause-so_far c table r more (taken, (p, at)) =
    let did = c.end.ensures.ends _ _ _ p (rests_now _ c.requires.some c.requires.thread refl refl c.take_seat.ensures c.index_mut-cache.ensures.value at) in
    somewhere (act_turn _ c.requires.some c.requires.thread (λ limit asked fit. fit) (λ indexes p q is. (refl, tt)) c.take_seat.ensures
    c.index_mut-cache.ensures.value at did (omega arith) (sym (append-nil _)) refl)
