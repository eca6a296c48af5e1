use Rattle.std.proofs.Common.{arith, [], ◌∷◌, sym, ◌∙◌, refl, inl, inr}
use Rattle.pas_steps.{specs.{Views.{FromParked, has_right}, Desks.made, declared.step.Step.TheVariants.{Offer, Unpark}}, proofs.Adding.{adds_none, adds_step}}
use Rattle.pas_steps.proofs.Adding.{can_step}
use Rattle.pas_rights.proofs.Orders.{knows_some, gets}
use Rattle.pas_rights.proofs.returning.reoffer.Goals as goal

pub offer-requires-clause-can : goal.offer-requires-clause-can
offer-requires-clause-can g c =
    search (arith, can_step, adds_step, adds_none, knows_some)

pub returns-then-has_page-clause-reoffers : goal.returns-then-has_page-clause-reoffers
returns-then-has_page-clause-reoffers g c =
    let p = c.args.page in let d = c.args.directory in let u = c.unpark-old.result in let bit = sym c.has_page.ensures ∙ c.if-has_page.true in
    record {
      steps = made (Offer p d) c.offer.result ∷ made (Unpark p) u ∷ [];
      order = inr (u, c.offer.result, bit, refl);
      adds = adds_step (adds_step adds_none c.unpark-old.ensures.makes (λ v l stood met. knows_some p d v met)) c.offer.ensures.makes (λ v l stood met. (gets p FromParked u (has_right v p) refl bit, met));
    }

pub returns-else-has_page-clause-reoffers : goal.returns-else-has_page-clause-reoffers
returns-else-has_page-clause-reoffers g c =
    let p = c.args.page in let d = c.args.directory in let u = c.unpark-old.result in
    record {
      steps = made (Unpark p) u ∷ [];
      order = inl (u, sym c.has_page.ensures ∙ c.if-has_page.false, refl);
      adds = adds_step adds_none c.unpark-old.ensures.makes (λ v l stood met. knows_some p d v met);
    }
