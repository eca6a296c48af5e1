use Rattle.std.proofs.Common.{◌≡◌, [], length, ap, ◌∙◌, arith}
use Rattle.pas_plain.{specs.Plain.{actor_of, room_of_pass}, proofs.Desks.is_last}
use Rattle.pas_plain.proofs.seating.alone.Goals as goal

pub desk-requires : goal.desk-requires
desk-requires c =
    let many : length c.loop-other.rooms.items ≡ c.args.profile.threads =
    omega (arith, c.loop-other.invariant.count, c.loop-other.rooms.ok.0, c.loop-other.auto._other-end, c.loop-other-test.false) in
    let last = is_last c.args.profile c.in_ok-region.region c.loop-other.rooms.items _ c.in_ok-room.room _ _ c.in-Some.pass
    c.in_ok-region.ensures.profile many c.in_ok-room.ensures.empty c.push_reserved-2.ensures.items c.in_ok-region.ensures.passes c.in-Some.ensures.items in
    record { whole = []; stands = c.in_ok-region.ensures.opening; its_part = last.stands }

pub returns-clause-fresh : goal.returns-clause-fresh
returns-clause-fresh c =
    let many : length c.loop-other.rooms.items ≡ c.args.profile.threads =
    omega (arith, c.loop-other.invariant.count, c.loop-other.rooms.ok.0, c.loop-other.auto._other-end, c.loop-other-test.false) in
    let last = is_last c.args.profile c.in_ok-region.region c.loop-other.rooms.items _ c.in_ok-room.room _ _ c.in-Some.pass
    c.in_ok-region.ensures.profile many c.in_ok-room.ensures.empty c.push_reserved-2.ensures.items c.in_ok-region.ensures.passes c.in-Some.ensures.items in
    c.desk.ensures.stands [] c.in_ok-region.ensures.opening last.stands

pub returns-clause-room : goal.returns-clause-room
returns-clause-room c =
    let many : length c.loop-other.rooms.items ≡ c.args.profile.threads =
    omega (arith, c.loop-other.invariant.count, c.loop-other.rooms.ok.0, c.loop-other.auto._other-end, c.loop-other-test.false) in
    let last = is_last c.args.profile c.in_ok-region.region c.loop-other.rooms.items _ c.in_ok-room.room _ _ c.in-Some.pass
    c.in_ok-region.ensures.profile many c.in_ok-room.ensures.empty c.push_reserved-2.ensures.items c.in_ok-region.ensures.passes c.in-Some.ensures.items in
    ap room_of_pass c.desk.ensures.pass ∙ ap room_of_pass last.pass_is ∙ c.in_ok-room.ensures.size

pub returns-clause-actor : goal.returns-clause-actor
returns-clause-actor c =
    let many : length c.loop-other.rooms.items ≡ c.args.profile.threads =
    omega (arith, c.loop-other.invariant.count, c.loop-other.rooms.ok.0, c.loop-other.auto._other-end, c.loop-other-test.false) in
    let last = is_last c.args.profile c.in_ok-region.region c.loop-other.rooms.items _ c.in_ok-room.room _ _ c.in-Some.pass
    c.in_ok-region.ensures.profile many c.in_ok-room.ensures.empty c.push_reserved-2.ensures.items c.in_ok-region.ensures.passes c.in-Some.ensures.items in
    ap actor_of c.desk.ensures.pass ∙ ap actor_of last.pass_is
