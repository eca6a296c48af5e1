use Rattle.std.proofs.Common.{◌≡◌, ◌∙◌, refl, ap, arith, length, drop}
use Rattle.pas_answers.proofs.{Common.{cached, what_of, IsNamedFor, request_made}, Tries.{can_rest, is_shown, shown_longer, records_fit, said_fits, answers}}
use Rattle.pas_answers.proofs.Tries.{nothing_said, this_said}
use Rattle.pas_answers.proofs.answering.answer_meant.Goals as goal

pub push_events-requires-clause-within : goal.push_events-requires-clause-within
push_events-requires-clause-within g c = shown_longer c.perform-came.ensures.performs.0.calls.adds c.shown-before.result.now c.shown.result.now
    (is_shown (g.D.Desk.standing c.args.desk.now) c.shown-before.ensures refl (g.met.D.Desk.shows c.args.desk.now)) (is_shown (g.D.Desk.standing c.perform-came.new.desk) c.shown.ensures (ap g.D.Desk.forgotten c.perform-came.ensures.home) (g.met.D.Desk.shows c.perform-came.new.desk))
    (can_rest (cached c.args.cache.now) (what_of c.args.task) (g.D.Desk.spare_of c.args.desk.now) c.args.out.now c.requires.can)

pub push_events-requires-clause-room : goal.push_events-requires-clause-room
push_events-requires-clause-room g c =
    let fits = records_fit (what_of c.args.task) c.args.meant c.perform-came.result.0 (cached c.args.cache.now)
    (g.D.Desk.spare_of c.args.desk.now) c.args.out.now c.shown-before.result.now c.shown.result.now c.requires.can c.perform-came.ensures.performs.0
    (is_shown (g.D.Desk.standing c.args.desk.now) c.shown-before.ensures refl (g.met.D.Desk.shows c.args.desk.now)) (is_shown (g.D.Desk.standing c.perform-came.new.desk) c.shown.ensures (ap g.D.Desk.forgotten c.perform-came.ensures.home) (g.met.D.Desk.shows c.perform-came.new.desk)) in
    omega (arith, fits)

pub push-requires : goal.push-requires
push-requires g c = said_fits (g.D.Desk.standing c.args.desk.now).seat.actor c.args.out.now c.push_events.new.out (drop (length c.shown-before.result.now) c.shown.result.now) c.in-Some.said c.in-Some.is
    (records_fit (what_of c.args.task) c.args.meant c.perform-came.result.0 (cached c.args.cache.now)
    (g.D.Desk.spare_of c.args.desk.now) c.args.out.now c.shown-before.result.now c.shown.result.now c.requires.can c.perform-came.ensures.performs.0
    (is_shown (g.D.Desk.standing c.args.desk.now) c.shown-before.ensures refl (g.met.D.Desk.shows c.args.desk.now)) (is_shown (g.D.Desk.standing c.perform-came.new.desk) c.shown.ensures (ap g.D.Desk.forgotten c.perform-came.ensures.home) (g.met.D.Desk.shows c.perform-came.new.desk)))
    c.push_events.ensures.added c.push_events.ensures.room

pub returns-in-Some-clause-answers : goal.returns-in-Some-clause-answers
returns-in-Some-clause-answers g c =
    let performs = c.perform-came.ensures.performs.0 in
    answers (λ found. IsNamedFor (g.D.Desk.standing c.args.desk.now).seat.profile (g.O.Door.answers c.args.door.now c.perform-came.new.door) (c.perform-came.new.door ≡ c.args.door.now) (request_made (what_of c.args.task) c.args.meant) found) (what_of c.args.task) c.args.meant c.perform-came.result.0 (cached c.args.cache.now) (cached c.perform-came.new.cache) c.args.out.now c.push.new.self c.shown-before.result.now c.shown.result.now
    performs c.perform-came.ensures.performs.1
    (is_shown (g.D.Desk.standing c.args.desk.now) c.shown-before.ensures refl (g.met.D.Desk.shows c.args.desk.now)) (is_shown (g.D.Desk.standing c.perform-came.new.desk) c.shown.ensures (ap g.D.Desk.forgotten c.perform-came.ensures.home) (g.met.D.Desk.shows c.perform-came.new.desk))
    (this_said _ _ _ _ _ c.in-Some.said c.in-Some.is (c.actor.ensures ∙ ap (λ s. s.actor) performs.calls.adds.seat_is) c.push_events.ensures.added
    c.push.ensures.added)
    (c.push.ensures.size ∙ c.push_events.ensures.room)

pub returns-in_default-clause-answers : goal.returns-in_default-clause-answers
returns-in_default-clause-answers g c = answers (λ found. IsNamedFor (g.D.Desk.standing c.args.desk.now).seat.profile (g.O.Door.answers c.args.door.now c.perform-came.new.door) (c.perform-came.new.door ≡ c.args.door.now) (request_made (what_of c.args.task) c.args.meant) found) (what_of c.args.task) c.args.meant c.perform-came.result.0 (cached c.args.cache.now) (cached c.perform-came.new.cache) c.args.out.now c.push_events.new.out c.shown-before.result.now c.shown.result.now
    c.perform-came.ensures.performs.0 c.perform-came.ensures.performs.1
    (is_shown (g.D.Desk.standing c.args.desk.now) c.shown-before.ensures refl (g.met.D.Desk.shows c.args.desk.now)) (is_shown (g.D.Desk.standing c.perform-came.new.desk) c.shown.ensures (ap g.D.Desk.forgotten c.perform-came.ensures.home) (g.met.D.Desk.shows c.perform-came.new.desk))
    (nothing_said _ _ _ c.in_default.is c.push_events.ensures.added) c.push_events.ensures.room
