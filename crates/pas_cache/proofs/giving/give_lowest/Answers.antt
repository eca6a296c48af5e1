use Rattle.std.proofs.Common.{arith, ◌+◌, ◌*◌, ◌/◌, ◌≤◌, sym, subst}
use Rattle.pas_steps.specs.Desks.{CanCall}
use Rattle.pas_rights.specs.Gives.{MayGive}
use Rattle.pas_cache.proofs.Resting.{slot_within, region_within, can_give, gives_lowest}
use Rattle.pas_cache.proofs.giving.give_lowest.Goals as goal

pub give-block-requires-clause-page : goal.give-block-requires-clause-page
give-block-requires-clause-page g c = c.requires.can.met.local.page

pub give-block-requires-clause-heap : goal.give-block-requires-clause-heap
give-block-requires-clause-heap g c = c.requires.can.met.local.directory.heap

pub give-block-requires-clause-some : goal.give-block-requires-clause-some
give-block-requires-clause-some g c = let slots = c.args.slots.now in let can = c.requires.can in
    subst (λ n. 1 ≤ n / 16) (sym c.class_size-grains.ensures) (slot_within _ c.in-Some.start c.in-Some.ensures _ can.view can.met).0

pub give-block-requires-clause-within : goal.give-block-requires-clause-within
give-block-requires-clause-within g c = let slots = c.args.slots.now in let can = c.requires.can in let f = (g.D.Desk.standing c.args.desk.now).seat.profile in
    subst (λ n. slots.page * 256 + c.in-Some.start + n / 16 ≤ 256 * (f.pages + 1)) (sym c.class_size-grains.ensures) (region_within _ c.in-Some.start c.in-Some.ensures f can.view can.met)

pub give-block-requires-clause-can : goal.give-block-requires-clause-can
give-block-requires-clause-can g c = let slots = c.args.slots.now in let σ = g.D.Desk.standing c.args.desk.now in
    subst (λ n. CanCall σ (MayGive σ.seat.profile slots.heap slots.page c.in-Some.start (n / 16))) (sym c.class_size-grains.ensures) (can_give _ c.in-Some.start c.in-Some.ensures c.requires.can)

pub returns-clause-gives : goal.returns-clause-gives
returns-clause-gives g c = search (arith, gives_lowest)
