use Rattle.std.proofs.Common.{arith, ap, refl, ◌∙◌}
use Rattle.pas_shared.specs.{Passes.{view_of, seat_of}, declared.{pass.SharedPass.SharedPass, region.SharedRegion.SharedRegion}}
use Rattle.pas_trials.proofs.HandedOver.{can_ask, gift_of}
use Rattle.pas_trials.proofs.handing.borrow.Goals as goal

pub alloc-answer-requires-clause-can : goal.alloc-answer-requires-clause-can
alloc-answer-requires-clause-can c =
    search (arith, can_ask)

pub returns-in-Ok-clause-gift : goal.returns-in-Ok-clause-gift
returns-in-Ok-clause-gift c =
    let seated = c.desk-desk.ensures.pass in
    let fresh = c.requires.pass.fresh in
    gift_of c.args.region.now _ _ _ c.desk-desk.result c.alloc-answer.new.desk _ _ c.in-Ok.block
    (ap view_of seated ∙ fresh.no_steps) (ap (λ (p : SharedPass). (seat_of p).actor) seated ∙ c.requires.pass.actor) (ap (λ (p : SharedPass). (seat_of p).profile) seated ∙ fresh.of_region.1) c.requires.rest
    c.in-Ok.ensures.allocates (c.into_pass-pass.ensures.pass ∙ c.past-past.ensures.pass)
    (c.past-past.ensures.of ∙ ap (λ (r : SharedRegion). r.table.shared.table_id) (c.alloc-answer.ensures.home ∙ c.desk-desk.ensures.region)) c.past-past.ensures.own refl
