use Rattle.std.proofs.Common.{◌∙◌, refl, ap, sym, arith}
use Rattle.pas_replay.proofs.{Common.Profile, Turning.{may_take_seat, sat_down, scavenger_now, scavenger_turn, somewhere}}
use Rattle.pas_replay.proofs.seats.pass.Goals as goal

pub take_seat-requires : goal.take_seat-requires
take_seat-requires c = may_take_seat c.args.desk.now c.args.actors.now 0 (omega arith) c.requires.so_far.1.2

pub pass-requires-clause-stands : goal.pass-requires-clause-stands
pass-requires-clause-stands c =
    let so0 = c.requires.so_far.1 in
    (so0.0.profile, _, so0.2.1.0, scavenger_now so0.1 c.take_seat.ensures so0.2.1.1)

pub pass-requires-clause-places : goal.pass-requires-clause-places
pass-requires-clause-places c = let at = sat_down c.take_seat.ensures c.requires.so_far.1.2.1.1 in at.places ∙ ap (λ (g : Profile). g.pages) (sym at.profile_is)

pub returns-clause-so_far : goal.returns-clause-so_far
returns-clause-so_far c table r more (taken, (p, at)) =
    let did = c.pass.ensures.passes r.profile _ p (scavenger_now more c.take_seat.ensures at) in
    somewhere (scavenger_turn c.take_seat.ensures (λ limit asked fit. fit) (λ indexes p q is. (refl, tt)) at did c.pass.ensures.places)
