use Rattle.std.proofs.Common.{◌∙◌, refl, sym, arith, append-nil}
use Rattle.pas_replay.proofs.{Turning.may_take_seat, ByActors.{rests_now, act_turn}}
use Rattle.pas_replay.proofs.seats.stop_if_idle.Goals as goal

pub take_seat-requires : goal.take_seat-requires
take_seat-requires c = let so = c.requires.so_far.1.2 in may_take_seat c.args.desk.now c.args.actors.now c.args.actor (omega (arith, c.requires.thread)) (so.0, (_, so.2))

pub stop_if_idle-requires : goal.stop_if_idle-requires
stop_if_idle-requires c =
    let so = c.requires.so_far.1.2 in
    record { stands = (_, _, _, so.1, rests_now _ c.requires.some c.requires.thread refl refl c.take_seat.ensures c.index_mut-cache.ensures.value so.2) }

pub push-requires : goal.push-requires
push-requires c =
    let so = c.requires.so_far.1.2 in
    let did = c.if-stop_if_idle.ensures.stops _ _ _ so.1 (rests_now _ c.requires.some c.requires.thread refl refl
    c.take_seat.ensures c.index_mut-cache.ensures.value so.2) so.3 in
    omega (arith, did.stands.spare)

pub returns-then-stop_if_idle-clause-so_far : goal.returns-then-stop_if_idle-clause-so_far
returns-then-stop_if_idle-clause-so_far c table r more (taken, p, at, read) =
    let did = c.if-stop_if_idle.ensures.stops _ _ _ p (rests_now _ c.requires.some c.requires.thread refl refl
    c.take_seat.ensures c.index_mut-cache.ensures.value at) read in
    let so = act_turn _ c.requires.some c.requires.thread (λ limit asked fit. fit) (λ indexes p q is. (refl, tt)) c.take_seat.ensures
    c.index_mut-cache.ensures.value at did (omega arith) c.push.ensures.added c.push.ensures.size in
    (so.0, did.reached, so.1, did.epoch ∙ read)

pub returns-else-stop_if_idle-clause-so_far : goal.returns-else-stop_if_idle-clause-so_far
returns-else-stop_if_idle-clause-so_far c table r more (taken, p, at, read) =
    let did = c.if-stop_if_idle.ensures.stops _ _ _ p (rests_now _ c.requires.some c.requires.thread refl refl
    c.take_seat.ensures c.index_mut-cache.ensures.value at) read in
    let so = act_turn _ c.requires.some c.requires.thread (λ limit asked fit. fit) (λ indexes p q is. (refl, tt)) c.take_seat.ensures
    c.index_mut-cache.ensures.value at did (omega arith) (sym (append-nil _)) refl in
    (so.0, did.reached, so.1, did.epoch ∙ read)
