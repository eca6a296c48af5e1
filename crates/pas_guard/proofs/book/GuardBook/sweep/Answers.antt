use Rattle.std.proofs.Common.{◌++◌, ◌∷◌, List, [], length, length-append, refl, ap, sym, subst, ◌∙◌, arith, slice_index_or}
use Rattle.pas_records.specs.Rooms.{records_in}
use Rattle.pas_guard.{specs.{Passing.{no_guard, AreOfRegion}, Sweeps.lowered_record}, proofs.PassedGuards.{are_of_region, guards_stay, may_pass, place_within}}
use Rattle.pas_guard.proofs.Raises.{swept_none, swept_all, its_page, may_look, can_lower_it, it_stays, it_goes, next, one_less}
use Rattle.pas_profile.specs.declared.guard.Guard.{Guard}
use Rattle.pas_guard.proofs.book.GuardBook.sweep.Goals as goal

pub loop-place-init : goal.loop-place-init
loop-place-init g c = let room = c.requires.room in record { so_far = swept_none _ _ _; actor = c.actor-actor.ensures; room = omega (arith, room); rooms = refl; size = refl; home = refl }

pub pass_alive-place-requires : goal.pass_alive-place-requires
pass_alive-place-requires g c = let i = c.loop-place.invariant in let within = place_within i.so_far in let many = ap length c.guards.ensures in record {
  region = subst (AreOfRegion (g.D.Desk.standing c.loop-place.desk)) (sym c.guards.ensures) (are_of_region i.so_far c.requires.can);
  from = omega (arith, within, many);
  can = may_pass i.so_far c.requires.can;
}

pub goes_down-requires : goal.goes_down-requires
goes_down-requires g c = let i = c.loop-place.invariant in
    let so_far = guards_stay i.so_far c.guards.result.now c.guards.ensures c.pass_alive-place.ensures.passes in
    let within = place_within so_far in let many = ap length c.guards-in-loop-place.ensures in let more = c.if-place-guards.false in
    let read = ap (λ (xs : List Guard). slice_index_or xs c.pass_alive-place.result no_guard) c.guards-in-loop-place-2.ensures in record {
      page = its_page so_far read (omega (arith, within, many, more)) c.requires.can;
      can = may_look so_far read (omega (arith, within, many, more)) c.requires.can;
    }

pub lower-requires : goal.lower-requires
lower-requires g c = let i = c.loop-place.invariant in
    let so_far = guards_stay i.so_far c.guards.result.now c.guards.ensures c.pass_alive-place.ensures.passes in
    let within = place_within so_far in let many = ap length c.guards-in-loop-place.ensures in let more = c.if-place-guards.false in
    let read = ap (λ (xs : List Guard). slice_index_or xs c.pass_alive-place.result no_guard) c.guards-in-loop-place-2.ensures in record {
      can = can_lower_it so_far (next so_far read (omega (arith, within, many, more))).rest_is c.goes_down.ensures.looks c.requires.can;
    }

pub loop-place-smaller-then-goes_down : goal.loop-place-smaller-then-goes_down
loop-place-smaller-then-goes_down g c = let i = c.loop-place.invariant in
    let so_far = guards_stay i.so_far c.guards.result.now c.guards.ensures c.pass_alive-place.ensures.passes in
    let within = place_within so_far in
    let many = ap length c.guards-in-loop-place.ensures in let more = c.if-place-guards.false in let at = c.pass_alive-place.ensures.passes.at in
    let read = ap (λ (xs : List Guard). slice_index_or xs c.pass_alive-place.result no_guard) c.guards-in-loop-place-2.ensures in
    let less = one_less so_far read (omega (arith, within, many, more)) c.take_out.ensures.taken in
    omega (arith, less, within, many, more, at)

pub loop-place-preserved-then-goes_down : goal.loop-place-preserved-then-goes_down
loop-place-preserved-then-goes_down g c = let i = c.loop-place.invariant in
    let so_far = guards_stay i.so_far c.guards.result.now c.guards.ensures c.pass_alive-place.ensures.passes in
    let within = place_within so_far in
    let many = ap length c.guards-in-loop-place.ensures in let more = c.if-place-guards.false in let at = c.pass_alive-place.ensures.passes.at in
    let read = ap (λ (xs : List Guard). slice_index_or xs c.pass_alive-place.result no_guard) c.guards-in-loop-place-2.ensures in
    let less = one_less so_far read (omega (arith, within, many, more)) c.take_out.ensures.taken in
    let line = lowered_record c.actor-actor.result (slice_index_or c.guards-in-loop-place-2.result.now c.pass_alive-place.result no_guard) ∷ [] in
    let pushed = ap length c.push.ensures.added in let n = length-append (records_in c.loop-place.lowered) line in let room = i.room in
    let same = c.push.ensures.size in record {
      so_far = it_goes so_far (next so_far read (omega (arith, within, many, more))).rest_is
          c.goes_down.ensures.looks c.if-goes_down.true c.lower.ensures.lowers c.take_out.ensures.taken
          (c.push.ensures.added ∙ ap (λ k. records_in c.loop-place.lowered ++ lowered_record k
          (slice_index_or c.guards-in-loop-place-2.result.now c.pass_alive-place.result no_guard) ∷ []) c.actor-actor.ensures);
      actor = c.actor-actor.ensures;
      room = omega (arith, less, pushed, n, room, same, within, many, more, at);
      rooms = same ∙ i.rooms;
      size = c.take_out.ensures.size ∙ i.size;
      home = c.lower.ensures.home ∙ c.goes_down.ensures.home ∙ c.pass_alive-place.ensures.home ∙ i.home;
    }

pub loop-place-preserved : goal.loop-place-preserved
loop-place-preserved g c = let i = c.loop-place.invariant in
    let so_far = guards_stay i.so_far c.guards.result.now c.guards.ensures c.pass_alive-place.ensures.passes in
    let within = place_within so_far in
    let many = ap length c.guards-in-loop-place.ensures in let more = c.if-place-guards.false in let at = c.pass_alive-place.ensures.passes.at in
    let read = ap (λ (xs : List Guard). slice_index_or xs c.pass_alive-place.result no_guard) c.guards-in-loop-place-2.ensures in
    let room = i.room in record {
      so_far = it_stays so_far (next so_far read (omega (arith, within, many, more))).rest_is c.goes_down.ensures.looks c.if-goes_down.false;
      actor = i.actor;
      room = omega (arith, room, at);
      rooms = i.rooms;
      size = i.size;
      home = c.goes_down.ensures.home ∙ c.pass_alive-place.ensures.home ∙ i.home;
    }

pub returns-then-place-guards-clause-sweeps : goal.returns-then-place-guards-clause-sweeps
returns-then-place-guards-clause-sweeps g c = let i = c.loop-place.invariant in
    let so_far = guards_stay i.so_far c.guards.result.now c.guards.ensures c.pass_alive-place.ensures.passes in
    let many = ap length c.guards-in-loop-place.ensures in let all = c.if-place-guards.true in swept_all so_far (omega (arith, all, many))
