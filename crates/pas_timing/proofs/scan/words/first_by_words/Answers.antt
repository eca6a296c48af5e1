use Rattle.std.proofs.Common.{◌∙◌, ◌∷◌, ap}
use Rattle.pas_profile.specs.declared.word.Word.{Word}
use Rattle.pas_steps.{specs.{declared.step.Step.TheVariants.Look, Desks.{AnyView, made}}, proofs.Adding.{adds_step, can_call}}
use Rattle.pas_timing.proofs.scan.words.first_by_words.Goals as goal

pub loop-block-preserved : goal.loop-block-preserved
loop-block-preserved g c = let i = c.loop-block.invariant in record {
  steps = made (Look (Word.Eligible c.number-number.result c.loop-block.block)) c.look-value.result ∷ i.steps;
  adds = adds_step i.adds c.look-value.ensures.makes (λ v l stood met. tt);
  looked = i.looked;
}

pub returns-in-Some-clause-directory : goal.returns-in-Some-clause-directory
returns-in-Some-clause-directory g c = ap (λ x. x.directory) c.loop-block.invariant.looked

pub returns-in-Some-clause-seat : goal.returns-in-Some-clause-seat
returns-in-Some-clause-seat g c = c.look-value.ensures.makes.seat_is ∙ c.loop-block.invariant.adds.seat_is

pub returns-in-Some-clause-can : goal.returns-in-Some-clause-can
returns-in-Some-clause-can g c = can_call {C = AnyView} (adds_step {C = AnyView} c.loop-block.invariant.adds c.look-value.ensures.makes (λ v l stood met. tt)) c.requires.can (λ v l stood met. tt)

pub returns-clause-directory : goal.returns-clause-directory
returns-clause-directory g c = ap (λ x. x.directory) c.loop-block.invariant.looked

pub returns-clause-seat : goal.returns-clause-seat
returns-clause-seat g c = c.loop-block.invariant.adds.seat_is

pub returns-clause-can : goal.returns-clause-can
returns-clause-can g c = can_call {C = AnyView} c.loop-block.invariant.adds c.requires.can (λ v l stood met. tt)
