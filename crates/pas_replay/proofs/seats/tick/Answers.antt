use Rattle.std.proofs.Common.{refl, arith}
use Rattle.pas_replay.proofs.Turning.{may_take_seat, scavenger_now, scavenger_turn, somewhere}
use Rattle.pas_replay.proofs.seats.tick.Goals as goal

pub take_seat-requires : goal.take_seat-requires
take_seat-requires c = may_take_seat c.args.desk.now c.args.actors.now 0 (omega arith) c.requires.so_far.1.2

pub tick-requires-clause-epoch : goal.tick-requires-clause-epoch
tick-requires-clause-epoch c = c.requires.so_far.1.2.1.1.names.fit.0

pub tick-requires-clause-stands : goal.tick-requires-clause-stands
tick-requires-clause-stands c =
    let so0 = c.requires.so_far.1 in
    (so0.0.profile, _, so0.2.1.0, scavenger_now so0.1 c.take_seat.ensures so0.2.1.1)

pub returns-clause-so_far : goal.returns-clause-so_far
returns-clause-so_far c table r more (taken, (p, at)) =
    let did = c.tick.ensures.ticks r.profile _ p (scavenger_now more c.take_seat.ensures at) in
    somewhere (scavenger_turn c.take_seat.ensures (λ limit asked fit. fit.1) (λ indexes p q is. (refl, tt)) at did refl)
