use Rattle.std.proofs.Common.{◌∙◌, ◌++◌, List, refl, ap, arith, length, length-append, drop, map}
use Rattle.pas_answers.proofs.{Common.{length-map, records_in, Record}, Requests.asking, Tries.{is_shown, fewer_up, can_sweep, can_raise, more_shown}}
use Rattle.pas_answers.proofs.Tries.{told_fits, given_stands, said_some, said_none, tries}
use Rattle.pas_answers.proofs.guarding.try_guarded.Goals as goal

pub raise-block-requires-clause-book : goal.raise-block-requires-clause-book
raise-block-requires-clause-book g c = search (arith, fewer_up)

pub raise-block-requires-clause-can : goal.raise-block-requires-clause-can
raise-block-requires-clause-can g c = can_raise c.args.book.now c.args.size (g.D.Desk.spare_of c.args.desk.now)
    (g.D.Desk.spare_of c.sweep.new.desk) c.args.out.now c.requires.can c.sweep.ensures.sweeps _ (omega arith) c.requires.large
    (g.met.D.Desk.spares c.args.desk.now) (g.met.D.Desk.spares c.sweep.new.desk)

pub push_events-requires-clause-within : goal.push_events-requires-clause-within
push_events-requires-clause-within g c =
    more_shown (asking c.args.name c.args.heap c.args.size c.args.align) c.args.book.now c.sweep.new.self c.raise-block.new.self c.args.out.now c.sweep.new.lowered c.raise-block.result _ (omega arith) c.requires.large c.sweep.ensures.sweeps c.raise-block.ensures.raises
    c.shown-before.result.now c.shown.result.now (is_shown (g.D.Desk.standing c.sweep.new.desk) c.shown-before.ensures refl (g.met.D.Desk.shows c.sweep.new.desk)) (is_shown (g.D.Desk.standing c.raise-block.new.desk) c.shown.ensures (ap g.D.Desk.forgotten c.raise-block.ensures.home) (g.met.D.Desk.shows c.raise-block.new.desk)) (can_sweep c.requires.can)

pub push_events-requires-clause-room : goal.push_events-requires-clause-room
push_events-requires-clause-room g c =
    let fits = told_fits (asking c.args.name c.args.heap c.args.size c.args.align) c.args.book.now c.sweep.new.self c.raise-block.new.self c.args.out.now c.sweep.new.lowered c.raise-block.result _ (omega arith) c.requires.large c.sweep.ensures.sweeps c.raise-block.ensures.raises
    (g.D.Desk.spare_of c.args.desk.now) c.shown-before.result.now c.shown.result.now (is_shown (g.D.Desk.standing c.sweep.new.desk) c.shown-before.ensures refl (g.met.D.Desk.shows c.sweep.new.desk)) (is_shown (g.D.Desk.standing c.raise-block.new.desk) c.shown.ensures (ap g.D.Desk.forgotten c.raise-block.ensures.home) (g.met.D.Desk.shows c.raise-block.new.desk)) c.requires.can in
    omega (arith, fits, c.sweep.ensures.room)

pub push-requires : goal.push-requires
push-requires g c =
    let fits = told_fits (asking c.args.name c.args.heap c.args.size c.args.align) c.args.book.now c.sweep.new.self c.raise-block.new.self c.args.out.now c.sweep.new.lowered c.raise-block.result _ (omega arith) c.requires.large c.sweep.ensures.sweeps c.raise-block.ensures.raises
    (g.D.Desk.spare_of c.args.desk.now) c.shown-before.result.now c.shown.result.now (is_shown (g.D.Desk.standing c.sweep.new.desk) c.shown-before.ensures refl (g.met.D.Desk.shows c.sweep.new.desk)) (is_shown (g.D.Desk.standing c.raise-block.new.desk) c.shown.ensures (ap g.D.Desk.forgotten c.raise-block.ensures.home) (g.met.D.Desk.shows c.raise-block.new.desk)) c.requires.can in
    let events = drop (length c.shown-before.result.now) c.shown.result.now in
    let added = ap (λ (rs : List Record). length rs) c.push_events.ensures.added ∙ length-append (records_in c.sweep.new.lowered) (map Record.Event events) in
    omega (arith, fits, added, length-map events Record.Event, c.push_events.ensures.room, c.sweep.ensures.room)

pub returns-in-Some-clause-tries : goal.returns-in-Some-clause-tries
returns-in-Some-clause-tries g c =
    tries (asking c.args.name c.args.heap c.args.size c.args.align) c.args.book.now c.sweep.new.self c.raise-block.new.self c.args.out.now c.sweep.new.lowered _ _ (omega arith) c.requires.large c.sweep.ensures.sweeps c.in-Some.ensures.raises
    c.push_events.new.out c.push.new.self c.shown-before.result.now c.shown.result.now c.requires.admitted.aligned (is_shown (g.D.Desk.standing c.sweep.new.desk) c.shown-before.ensures refl (g.met.D.Desk.shows c.sweep.new.desk)) (is_shown (g.D.Desk.standing c.raise-block.new.desk) c.shown.ensures (ap g.D.Desk.forgotten c.raise-block.ensures.home) (g.met.D.Desk.shows c.raise-block.new.desk))
    c.push_events.ensures.added
    (c.push.ensures.added ∙ ap (λ (rs : List Record). records_in c.push_events.new.out ++ rs) (said_some (asking c.args.name c.args.heap c.args.size c.args.align) c.args.book.now c.sweep.new.self c.raise-block.new.self c.args.out.now c.sweep.new.lowered _ _ (omega arith) c.requires.large c.sweep.ensures.sweeps c.in-Some.ensures.raises
    c.in-Some.block c.actor.result c.raised.result c.actor.ensures c.raised.ensures))
    (c.push.ensures.size ∙ c.push_events.ensures.room ∙ c.sweep.ensures.room) (c.raise-block.ensures.size ∙ c.sweep.ensures.size)

pub returns-in-Some-clause-stands : goal.returns-in-Some-clause-stands
returns-in-Some-clause-stands g c =
    given_stands (asking c.args.name c.args.heap c.args.size c.args.align) c.args.book.now c.sweep.new.self c.raise-block.new.self c.args.out.now c.sweep.new.lowered _ _ (omega arith) c.requires.large c.sweep.ensures.sweeps c.in-Some.ensures.raises
    c.requires.admitted.of_profile c.requires.admitted.within (can_sweep c.requires.can)

pub returns-in_default-clause-tries : goal.returns-in_default-clause-tries
returns-in_default-clause-tries g c =
    tries (asking c.args.name c.args.heap c.args.size c.args.align) c.args.book.now c.sweep.new.self c.raise-block.new.self c.args.out.now c.sweep.new.lowered c.raise-block.result _ (omega arith) c.requires.large c.sweep.ensures.sweeps c.raise-block.ensures.raises
    c.push_events.new.out c.push_events.new.out c.shown-before.result.now c.shown.result.now c.requires.admitted.aligned (is_shown (g.D.Desk.standing c.sweep.new.desk) c.shown-before.ensures refl (g.met.D.Desk.shows c.sweep.new.desk)) (is_shown (g.D.Desk.standing c.raise-block.new.desk) c.shown.ensures (ap g.D.Desk.forgotten c.raise-block.ensures.home) (g.met.D.Desk.shows c.raise-block.new.desk))
    c.push_events.ensures.added
    (said_none (asking c.args.name c.args.heap c.args.size c.args.align) c.args.book.now c.sweep.new.self c.raise-block.new.self c.args.out.now c.sweep.new.lowered c.raise-block.result _ (omega arith) c.requires.large c.sweep.ensures.sweeps c.raise-block.ensures.raises (records_in c.push_events.new.out) c.in_default.is)
    (c.push_events.ensures.room ∙ c.sweep.ensures.room) (c.raise-block.ensures.size ∙ c.sweep.ensures.size)
