use Rattle.std.proofs.Common.{◌≡◌, ◌+◌, refl, arith}
use Rattle.pas_replay.proofs.{Turning.{may_take_seat, somewhere}, ByActors.{keeper_closes, lower_turn}}
use Rattle.pas_replay.proofs.seats.lower.Goals as goal

pub take_seat-requires : goal.take_seat-requires
take_seat-requires c =
    may_take_seat c.args.desk.now c.args.actors.now c.args.keeper (omega (arith, c.requires.keeper, c.requires.thread)) c.requires.so_far.1.2

pub lower_all-requires : goal.lower_all-requires
lower_all-requires c =
    let so = c.requires.so_far.1 in
    record { stands = (so.0.profile, c.args.keeper, _, so.2.1.0, keeper_closes c.args.keeper c.args.actor c.index_mut-book.result.now so.1 (omega (arith, c.requires.keeper, so.2.1.1.many)) c.requires.some c.requires.thread c.take_seat.ensures c.index_mut-book.ensures.value so.2.1.1) }

pub returns-clause-book : goal.returns-clause-book
returns-clause-book c =
    let so = c.requires.so_far.1 in
    let did = c.lower_all.ensures.lowers so.0.profile c.args.keeper _ so.2.1.0 (keeper_closes c.args.keeper c.args.actor c.index_mut-book.result.now so.1
    (omega (arith, c.requires.keeper, so.2.1.1.many)) c.requires.some c.requires.thread c.take_seat.ensures c.index_mut-book.ensures.value so.2.1.1) in
    (c.lower_all.new.book, refl, did.none)

pub returns-clause-so_far : goal.returns-clause-so_far
returns-clause-so_far c table r more (taken, (p, at)) =
    let place : c.args.keeper ≡ r.threads + c.args.actor = omega (arith, c.requires.keeper, at.many) in
    let did = c.lower_all.ensures.lowers r.profile c.args.keeper _ p (keeper_closes c.args.keeper c.args.actor c.index_mut-book.result.now more place c.requires.some c.requires.thread c.take_seat.ensures c.index_mut-book.ensures.value at) in
    somewhere (lower_turn c.args.keeper c.args.actor _ _ place c.requires.some c.requires.thread c.take_seat.ensures c.index_mut-book.ensures.value at did)
