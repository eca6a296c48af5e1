use Rattle.std.proofs.Common.{refl, arith}
use Rattle.pas_replay.proofs.Turning.{may_take_seat, scavenger_now, scavenger_turn}
use Rattle.pas_replay.proofs.seats.read_epoch.Goals as goal

pub take_seat-requires : goal.take_seat-requires
take_seat-requires c = may_take_seat c.args.desk.now c.args.actors.now 0 (omega arith) c.requires.so_far.2.2

pub read_epoch-requires : goal.read_epoch-requires
read_epoch-requires c =
    let so0 = c.requires.so_far in
    record { stands = (so0.2.0.profile, so0.1, _, so0.2.2.1.0, scavenger_now so0.2.1 c.take_seat.ensures so0.2.2.1.1) }

pub returns-clause-so_far : goal.returns-clause-so_far
returns-clause-so_far c table out r more (taken, (p, at)) =
    let did = c.read_epoch.ensures.reads r.profile out _ p (scavenger_now more c.take_seat.ensures at) in
    let so = scavenger_turn c.take_seat.ensures (λ limit asked fit. fit) (λ indexes p q is. (refl, tt)) at did.0 refl in
    (so.0, did.0.reached, so.1, did.1)
