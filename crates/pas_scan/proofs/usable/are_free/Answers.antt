use Rattle.std.proofs.Common.{◌∷◌, refl, inl, ◌∙◌, arith}
use Rattle.pas_profile.specs.declared.word.Word.{Word}
use Rattle.pas_steps.{specs.{declared.step.Step.TheVariants.Look, Desks.made}, proofs.Adding.{can_step, adds_step}}
use Rattle.pas_scan.proofs.LeftPages.{free_more}
use Rattle.pas_scan.proofs.usable.are_free.Goals as goal

pub look-value-requires-clause-can : goal.look-value-requires-clause-can
look-value-requires-clause-can g c =
    let i = c.loop-word.invariant in
    can_step i.adds c.requires.can (c.requires.page.0, c.requires.page.1, c.loop-word-test.true) (λ v l stood met. tt)

pub loop-word-preserved : goal.loop-word-preserved
loop-word-preserved g c =
    let i = c.loop-word.invariant in let a = c.look-value.result in
    record {
      steps = made (Look (Word.Free c.args.page c.loop-word.word)) a ∷ i.steps;
      adds = adds_step i.adds c.look-value.ensures.makes (λ v l stood met. tt);
      kinds = (refl, i.kinds);
      count = omega (arith, i.count);
      free = free_more _ c.loop-word.word a i.steps c.if-value.false i.free;
      home = c.look-value.ensures.home ∙ i.home;
    }

pub returns-then-value-clause-looks : goal.returns-then-value-clause-looks
returns-then-value-clause-looks g c =
    let i = c.loop-word.invariant in let a = c.look-value.result in
    record {
      steps = made (Look (Word.Free c.args.page c.loop-word.word)) a ∷ i.steps;
      adds = adds_step i.adds c.look-value.ensures.makes (λ v l stood met. tt);
      kinds = (refl, i.kinds);
      few = omega (arith, i.count, c.loop-word-test.true);
      outcome = inl (c.loop-word.word, c.loop-word-test.true, refl, c.if-value.true, c.look-value.type_inv);
    }

pub returns-clause-looks : goal.returns-clause-looks
returns-clause-looks g c = search arith
