use Rattle.std.proofs.Common.{sym, subst}
use Rattle.pas_bits.specs.Masks.{HasMember}
use Rattle.pas_steps.specs.Desks.{CanCall}
use Rattle.pas_segregated.specs.declared.slots.Slots.{Slots}
use Rattle.pas_cache.{specs.{Parts.MayGiveSlot, Serves.filling_in}, proofs.{Resting.{last_is, last_set}, Obtained.obtain_rests, Alone.fewer_room}}
use Rattle.pas_cache.proofs.Alone.{room_to_give, give_call, serves_given, serves_none}
use Rattle.pas_cache.proofs.serving.serve_class.Goals as goal

pub obtain-requires-clause-can : goal.obtain-requires-clause-can
obtain-requires-clause-can g c = fewer_room c.requires.can

pub give_lowest-requires-clause-some : goal.give_lowest-requires-clause-some
give_lowest-requires-clause-some g c =
    let o = c.in-Ok.ensures.obtains in
    subst (λ (s : Slots). HasMember s.starts) (sym (last_is o.fewer o.slots _ c.deref_mut.ensures.value o.last c.len-last.ensures.value)) o.obtains.found_for.some

pub give_lowest-requires-clause-can : goal.give_lowest-requires-clause-can
give_lowest-requires-clause-can g c =
    let o = c.in-Ok.ensures.obtains in
    let σ = g.D.Desk.standing c.obtain.new.desk in
    subst (λ (s : Slots). CanCall σ (MayGiveSlot σ.seat.profile s)) (sym (last_is o.fewer o.slots _ c.deref_mut.ensures.value o.last c.len-last.ensures.value))
    (give_call _ g.D.Desk.tells _ _ o.slots o.obtains c.requires.can)

pub give_lowest-requires-clause-room : goal.give_lowest-requires-clause-room
give_lowest-requires-clause-room g c = room_to_give _ g.D.Desk.tells c.in-Ok.ensures.obtains.obtains c.requires.can
    (λ v l q. g.met.D.Desk.spares c.args.desk.now v l q) (λ v l q. g.met.D.Desk.spares c.obtain.new.desk v l q)

pub returns-in-Err-clause-serves : goal.returns-in-Err-clause-serves
returns-in-Err-clause-serves g c = serves_none (filling_in c.args.home c.args.class) g.D.Desk.tells _ _ c.in-Err.room c.in-Err.ensures.obtains

pub returns-in-Ok-clause-serves : goal.returns-in-Ok-clause-serves
returns-in-Ok-clause-serves g c =
    let o = c.in-Ok.ensures.obtains in
    let value = c.deref_mut.ensures.value in
    let long = c.len-last.ensures.value in
    serves_given _ g.D.Desk.tells _ _ _ o.slots c.give_lowest.new.slots _ (obtain_rests c.requires.can) o.obtains
    (rw (last_is o.fewer o.slots _ value o.last long) at c.give_lowest.ensures.gives)
    (last_set o.fewer o.slots _ value o.last long)
