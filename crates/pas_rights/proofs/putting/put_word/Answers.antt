use Rattle.std.proofs.Common.{arith, [], ◌∷◌, refl, inr}
use Rattle.pas_steps.{specs.{Desks.made, declared.step.Step.TheVariants.Put}, proofs.{Adding.{adds_none, adds_step}, Called.call_none, Calls.leads_put}}
use Rattle.pas_steps.proofs.Calls.{leads_as}
use Rattle.pas_rights.proofs.Puts.{word_none}
use Rattle.pas_rights.proofs.putting.put_word.Goals as goal

pub returns-then-mask-ne0-clause-puts : goal.returns-then-mask-ne0-clause-puts
returns-then-mask-ne0-clause-puts g c = let a = c.put.result in record {
  steps = made (Put c.args.page c.args.word c.args.mask) a ∷ [];
  calls = record {
    adds = adds_step adds_none c.put.ensures.makes (λ v l stood met. record { some = c.if-mask-ne0.true; held = met.held; stamped = met.stamped });
    leads = leads_as (leads_put (g.D.Desk.standing c.args.desk.now).seat.profile _ _ _ a) (λ v met. tt) (λ v w met d. d);
  };
  order = inr (c.if-mask-ne0.true, a, refl);
}

pub returns-else-mask-ne0-clause-puts : goal.returns-else-mask-ne0-clause-puts
returns-else-mask-ne0-clause-puts g c = search (arith, call_none, word_none)
