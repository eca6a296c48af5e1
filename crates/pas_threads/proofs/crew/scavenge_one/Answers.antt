use Rattle.std.proofs.Common.{◌∙◌, [], refl, ap, sym, subst, arith}
use Rattle.pas_threads.proofs.{Common.{Profile, seat_of_member, IsSoundWork, Work}, ByCrew.{costs_stops, room_for_act, still_lent, as_acts, to_acts, did_alone}}
use Rattle.pas_threads.proofs.{ByCrew.did_idle, CrewSits.lent_stays}
use Rattle.pas_threads.proofs.crew.scavenge_one.Goals as goal

pub tick-requires-clause-epoch : goal.tick-requires-clause-epoch
tick-requires-clause-epoch c = let m = c.requires.may in let s = m.1 in subst (λ w. IsSoundWork s.profile [] (Work.Chore w)) c.in-Tick.is m.5

pub tick-requires-clause-stands : goal.tick-requires-clause-stands
tick-requires-clause-stands c =
    let m = c.requires.may in
    (m.1.profile, _, m.3, room_for_act (omega arith) (as_acts m.2 c.in-Tick.is m.6).stands)

pub pass-requires-clause-stands : goal.pass-requires-clause-stands
pass-requires-clause-stands c =
    let m = c.requires.may in
    (m.1.profile, _, m.3, room_for_act (omega arith) (as_acts m.2 c.in-Pass.is m.6).stands)

pub pass-requires-clause-places : goal.pass-requires-clause-places
pass-requires-clause-places c = let at = c.requires.may.6.stands in at.has_places ∙ ap (λ (h : Profile). h.pages) (sym at.stands.sits.profile)

pub read_epoch-epoch-requires : goal.read_epoch-epoch-requires
read_epoch-epoch-requires c =
    let m = c.requires.may in
    record { stands = (m.1.profile, c.args.out.now, _, m.3, room_for_act (omega arith) (as_acts m.2 c.in-Idle.is m.6).stands) }

pub stop_idle-requires : goal.stop_idle-requires
stop_idle-requires c =
    let m = c.requires.may in
    let s = m.1 in
    let at = as_acts m.2 c.in-Idle.is m.6 in
    let read = c.read_epoch-epoch.ensures.reads s.profile c.args.out.now _ m.3 (room_for_act (omega arith) at.stands) in
    let sits = read.0.stands.sits in
    let still = still_lent (lent_stays m.0.region m.0.row.actors s) at read.0 in
    record {
      lent = (m.0, s, read.0.reached, record { home = c.read_epoch-epoch.ensures.home ∙ m.4; over = sits.stood.1 }, still, sits.actor, read.1);
      room = omega (arith, at.stands.stands.spare, at.lent.many, costs_stops s.profile c.in-Idle.epochs s.idle m.2);
    }

pub returns-in-Tick-clause-did : goal.returns-in-Tick-clause-did
returns-in-Tick-clause-did c = λ h s next p home was.
    let at = as_acts next c.in-Tick.is was in
    to_acts c.in-Tick.is (did_alone (lent_stays h.region h.row.actors s) at (c.tick.ensures.ticks s.profile _ p (room_for_act (omega arith) at.stands)) refl)

pub returns-in-Pass-clause-did : goal.returns-in-Pass-clause-did
returns-in-Pass-clause-did c = λ h s next p home was.
    let at = as_acts next c.in-Pass.is was in
    to_acts c.in-Pass.is
    (did_alone (lent_stays h.region h.row.actors s) at (c.pass.ensures.passes s.profile _ p (room_for_act (omega arith) at.stands)) c.pass.ensures.places)

pub returns-in-Idle-clause-did : goal.returns-in-Idle-clause-did
returns-in-Idle-clause-did c = λ h s next p home was.
    let at = as_acts next c.in-Idle.is was in
    let read = c.read_epoch-epoch.ensures.reads s.profile c.args.out.now _ p (room_for_act (omega arith) at.stands) in
    to_acts c.in-Idle.is (did_idle c.in-Idle.epochs c.stop_idle.new.desk at read.0 (ap seat_of_member c.stop_idle.ensures.member) c.stop_idle.ensures.many
    (c.stop_idle.ensures.stops h s read.0.reached (record { home = c.read_epoch-epoch.ensures.home ∙ home; over = read.0.stands.sits.stood.1 }) (still_lent (lent_stays h.region h.row.actors s) at read.0) read.1))
