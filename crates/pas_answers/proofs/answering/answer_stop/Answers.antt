use Rattle.std.proofs.Common.{Option, ℕ, None, ap, arith, refl}
use Rattle.pas_answers.proofs.{Common.{Stop, cached}, Requests.performs_stop, Tries.{can_rest, is_shown, shown_longer, records_fit, answers, nothing_said}}
use Rattle.pas_answers.proofs.answering.answer_stop.Goals as goal

pub stop-requires-clause-room : goal.stop-requires-clause-room
stop-requires-clause-room g c = omega (arith, c.requires.can.met.may.room)

pub stop-requires-clause-can : goal.stop-requires-clause-can
stop-requires-clause-can g c = can_rest (cached c.args.cache.now) Stop (g.D.Desk.spare_of c.args.desk.now) c.args.out.now c.requires.can

pub push_events-requires-clause-within : goal.push_events-requires-clause-within
push_events-requires-clause-within g c = shown_longer (performs_stop None (cached c.args.cache.now)
    (cached c.stop.new.self) c.stop.ensures.stops).calls.adds c.shown-before.result.now c.shown.result.now
    (is_shown (g.D.Desk.standing c.args.desk.now) c.shown-before.ensures refl (g.met.D.Desk.shows c.args.desk.now))
    (is_shown (g.D.Desk.standing c.stop.new.desk) c.shown.ensures (ap g.D.Desk.forgotten c.stop.ensures.home) (g.met.D.Desk.shows c.stop.new.desk))
    (can_rest (cached c.args.cache.now) Stop (g.D.Desk.spare_of c.args.desk.now) c.args.out.now c.requires.can)

pub push_events-requires-clause-room : goal.push_events-requires-clause-room
push_events-requires-clause-room g c =
    let fits = records_fit Stop None None (cached c.args.cache.now) (g.D.Desk.spare_of c.args.desk.now) c.args.out.now c.shown-before.result.now c.shown.result.now c.requires.can (performs_stop None (cached c.args.cache.now) (cached c.stop.new.self) c.stop.ensures.stops)
    (is_shown (g.D.Desk.standing c.args.desk.now) c.shown-before.ensures refl (g.met.D.Desk.shows c.args.desk.now))
    (is_shown (g.D.Desk.standing c.stop.new.desk) c.shown.ensures (ap g.D.Desk.forgotten c.stop.ensures.home) (g.met.D.Desk.shows c.stop.new.desk)) in
    omega (arith, fits)

pub returns-clause-answers : goal.returns-clause-answers
returns-clause-answers g c = (answers (λ (found : Option ℕ). Unit {0}) Stop None None (cached c.args.cache.now)
    (cached c.stop.new.self) c.args.out.now c.push_events.new.out c.shown-before.result.now c.shown.result.now
    (performs_stop None (cached c.args.cache.now) (cached c.stop.new.self) c.stop.ensures.stops) tt
    (is_shown (g.D.Desk.standing c.args.desk.now) c.shown-before.ensures refl (g.met.D.Desk.shows c.args.desk.now))
    (is_shown (g.D.Desk.standing c.stop.new.desk) c.shown.ensures (ap g.D.Desk.forgotten c.stop.ensures.home) (g.met.D.Desk.shows c.stop.new.desk))
    (nothing_said (g.D.Desk.standing c.args.desk.now).seat.actor _ _ refl c.push_events.ensures.added) c.push_events.ensures.room).0
