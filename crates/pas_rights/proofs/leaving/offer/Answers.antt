use Rattle.std.proofs.Common.{[], ◌∷◌, ◌++◌, refl, sym, subst}
use Rattle.pas_steps.{specs.{declared.step.Step.TheVariants.Offer, Desks.made}, proofs.Adding.{adds_none, adds_step, adds_call}}
use Rattle.pas_rights.specs.Looks.{HintsWhere}
use Rattle.pas_rights.proofs.leaving.offer.Goals as goal

pub returns-then-all_free-clause-offers : goal.returns-then-all_free-clause-offers
returns-then-all_free-clause-offers g c =
    let p = c.args.page in let d = c.args.directory in let h = c.hint_backed.ensures.hinted in
    record {
      steps = h.steps ++ (made (Offer p d) c.offer.result ∷ []);
      order = record { offered = c.offer.result; after = h.steps; hints = subst (λ t. HintsWhere t p h.steps) (sym c.if-all_free.true) h.order; steps_are = refl };
      adds = adds_call (adds_step adds_none c.offer.ensures.makes (λ v l stood met. (met.right, met.deed))) h.adds (λ v l stood met. tt);
    }

pub returns-else-all_free-clause-offers : goal.returns-else-all_free-clause-offers
returns-else-all_free-clause-offers g c =
    let p = c.args.page in let d = c.args.directory in
    record {
      steps = made (Offer p d) c.offer.result ∷ [];
      order = record { offered = c.offer.result; after = []; hints = subst (λ t. HintsWhere t p []) (sym c.if-all_free.false) refl; steps_are = refl };
      adds = adds_step adds_none c.offer.ensures.makes (λ v l stood met. (met.right, met.deed));
    }
