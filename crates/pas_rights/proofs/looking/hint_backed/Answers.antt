use Rattle.std.proofs.Common.{[], ◌∷◌, refl, ap, inl, inr}
use Rattle.pas_profile.specs.declared.word.Word.{Word}
use Rattle.pas_steps.{specs.{declared.step.Step.TheVariants.{Look, Hint}, Desks.made}, proofs.Adding.{adds_none, adds_step}}
use Rattle.pas_rights.proofs.looking.hint_backed.Goals as goal

pub returns-then-look-eq1-clause-hinted : goal.returns-then-look-eq1-clause-hinted
returns-then-look-eq1-clause-hinted g c = let page = c.args.page in record {
  steps = made (Hint page) c.hint.result ∷ made (Look (Word.Backed page)) c.look.result ∷ [];
  order = inr (c.hint.result, ap (λ b. made (Hint page) c.hint.result ∷ made (Look (Word.Backed page)) b ∷ []) c.if-look-eq1.true);
  adds = adds_step (adds_step adds_none c.look.ensures.makes (λ v l stood met. tt)) c.hint.ensures.makes (λ v l stood met. tt);
}

pub returns-else-look-eq1-clause-hinted : goal.returns-else-look-eq1-clause-hinted
returns-else-look-eq1-clause-hinted g c = let page = c.args.page in record {
  steps = made (Look (Word.Backed page)) c.look.result ∷ [];
  order = inl (c.look.result, c.if-look-eq1.false, refl);
  adds = adds_step adds_none c.look.ensures.makes (λ v l stood met. tt);
}
