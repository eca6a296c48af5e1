use Rattle.std.proofs.Common.{sym, ◌∙◌, arith}
use Rattle.pas_acts.proofs.Making.{next_room, left_room}
use Rattle.pas_acts.proofs.parts.rooms_of.Goals as goal

pub unreachable-requires : goal.unreachable-requires
unreachable-requires c =
    let left = c.requires.left c.loop-actor.actor (omega (arith, c.loop-actor-test.true)) in
    left_room _ left.0 (sym (c.loop-actor.invariant.left c.loop-actor.actor (omega arith)) ∙ c.in_default-event_room.ensures.room) left.1

pub loop-actor-preserved : goal.loop-actor-preserved
loop-actor-preserved c =
    let i = c.loop-actor.invariant in
    record {
      made = next_room _ c.in-Some.room c.push_reserved.ensures.items (sym (i.left c.loop-actor.actor (omega arith)) ∙ c.in-Some.ensures.room.0) c.in-Some.ensures.room.1 i.made;
      left = λ k at. c.event_room.ensures.others k (λ e. absurd (omega (arith, e, at))) ∙ i.left k (omega (arith, at));
      seats = λ k. c.event_room.ensures.seats k ∙ i.seats k;
      outcomes = c.event_room.ensures.outcomes ∙ i.outcomes;
      threads = c.event_room.ensures.threads ∙ i.threads;
      reserved = omega (arith, i.reserved, c.push_reserved.ensures.capacity);
    }
