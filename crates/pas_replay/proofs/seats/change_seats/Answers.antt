use Rattle.std.proofs.{lemmas.List.set_comm, Common.{arith, set-set, get_or-set_other, None, Some, ap, sym, ◌∙◌}}
use Rattle.pas_replay.proofs.Common.{set-get_or, get_or_default, same_Some, actor_of, pass_of}
use Rattle.pas_replay.proofs.seats.change_seats.Goals as goal

pub returns : goal.returns
returns c =
    let passes = c.args.passes.now.items in
    let k = c.args.actor in
    let may = c.requires.may in
    let has = sym (c.take.ensures.value ∙ c.index_mut.ensures.value ∙ get_or_default passes k c.index_mut.result.now None may.place) ∙ c.in-Some.is in
    let there = get_or-set_other passes (actor_of (pass_of c.args.desk.now)) k (Some (pass_of c.args.desk.now)) None (λ e. c.requires.other (sym e)) in
    let own = same_Some _ _ (sym has ∙ sym there ∙ may.own.present) in
    let actor = ap actor_of own ∙ may.own.actor_is in
    -- the desk has the actor's pass, and the one before has its own back
    search (arith, set_comm, set-set, set-get_or)
