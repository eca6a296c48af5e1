use Rattle.std.proofs.Common.{[], ◌∷◌, refl, ◌∙◌, subst, ◌/◌, sym, inr, arith}
use Rattle.pas_profile.specs.declared.word.Word.{Word}
use Rattle.pas_steps.{specs.{declared.step.Step.TheVariants.Look, Desks.Makes}, proofs.Adding.{adds_none, adds_step}}
use Rattle.pas_scan.proofs.LeftPages.{deed_look, eligible_look, deed_read, bare, other_deed, not_offered, reads_by}
use Rattle.pas_scan.proofs.usable.is_usable.Goals as goal

pub returns-then-deed-eq0-clause-reads : goal.returns-then-deed-eq0-clause-reads
returns-then-deed-eq0-clause-reads g c = let a = c.look-deed.result in let page = c.args.page in let d = c.args.directory in record {
  steps = deed_look page a ∷ [];
  adds = adds_step adds_none c.look-deed.ensures.makes (λ v l stood met. tt);
  kinds = (refl, tt);
  few = omega arith;
  deed = deed_read page a;
  outcome = bare d page a c.if-deed-eq0.true;
}

pub returns-then-deed-deed_word-clause-reads : goal.returns-then-deed-deed_word-clause-reads
returns-then-deed-deed_word-clause-reads g c = let a = c.look-deed.result in let page = c.args.page in let d = c.args.directory in record {
  steps = deed_look page a ∷ [];
  adds = adds_step adds_none c.look-deed.ensures.makes (λ v l stood met. tt);
  kinds = (refl, tt);
  few = omega arith;
  deed = deed_read page a;
  outcome = other_deed d page a c.if-deed-eq0.false (λ e. c.if-deed-deed_word.true (e ∙ (sym c.deed_word.ensures)));
}

pub returns-else-has_page-clause-reads : goal.returns-else-has_page-clause-reads
returns-else-has_page-clause-reads g c =
    let a = c.look-deed.result in let e = c.look-offered.result in let page = c.args.page in let d = c.args.directory in let D = g.D.Desk in
    let makes = subst (λ n. Makes (D.standing c.look-deed.new.self) (D.standing c.look-offered.new.self) (Look (Word.Eligible n (page / 64))) e) c.number.ensures c.look-offered.ensures.makes in
    record {
      steps = eligible_look d page e ∷ deed_look page a ∷ [];
      adds = adds_step (adds_step adds_none c.look-deed.ensures.makes (λ v l stood met. tt)) makes (λ v l stood met. tt);
      kinds = (refl, (refl, tt));
      few = omega arith;
      deed = inr (deed_read page a);
      outcome = search (arith, not_offered);
    }

pub returns-then-has_page-clause-reads : goal.returns-then-has_page-clause-reads
returns-then-has_page-clause-reads g c =
    let a = c.look-deed.result in let e = c.look-offered.result in let page = c.args.page in let d = c.args.directory in let D = g.D.Desk in
    let makes = subst (λ n. Makes (D.standing c.look-deed.new.self) (D.standing c.look-offered.new.self) (Look (Word.Eligible n (page / 64))) e) c.number.ensures c.look-offered.ensures.makes in
    reads_by d page a e _ (adds_step (adds_step adds_none c.look-deed.ensures.makes (λ v l stood met. tt)) makes (λ v l stood met. tt))
    (c.if-deed-deed_word.false ∙ c.deed_word.ensures) (sym c.has_page.ensures ∙ c.if-has_page.true) c.are_free.ensures.looks
