use Rattle.std.proofs.Common.{ℕ, ap, ◌∙◌, subst}
use Rattle.pas_steps.specs.Views.{View}
use Rattle.pas_shared.specs.{Passes.{view_of, seat_of}, Pasts.{told, HasOwn}, declared.{pass.SharedPass.SharedPass, region.SharedRegion.SharedRegion}}
use Rattle.pas_trials.proofs.HandedOver.{freed}
use Rattle.pas_trials.proofs.handing.free.Goals as goal

pub returns-clause-freed : goal.returns-clause-freed
returns-clause-freed c =
    let seated = c.desk-desk.ensures.pass in
    let none = ap view_of seated ∙ c.requires.pass.fresh.no_steps in
    let actor = ap (λ (p : SharedPass). (seat_of p).actor) seated ∙ c.requires.pass.actor in
    let still = c.after-past.ensures.pass in
    freed c.args.region.now c.after-past.new.self c.end_one.new.desk c.args.gift _ c.after-past.result
    (ap view_of still ∙ none) (ap (λ (p : SharedPass). (seat_of p).actor) still ∙ actor) c.end_one.ensures.ends
    c.into_pass.ensures.pass
    (c.after-past.ensures.of ∙ ap (λ (r : SharedRegion). r.table.shared.table_id) c.desk-desk.ensures.region) c.after-past.ensures.earlier
    (subst (λ (z : ℕ × View). HasOwn z.0 z.1 (told c.after-past.result)) (λ i. (actor i, none i)) c.after-past.ensures.own)
