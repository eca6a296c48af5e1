use Rattle.std.proofs.{Common.{[], refl, sym, ◌∙◌, subst, arith, get_or}, lemmas.List.{drop_more, at_drop_more, at_drop_all}}
use Rattle.pas_profile.specs.declared.word.Word.{Word}
use Rattle.pas_steps.specs.{Desks.made, Views.View, declared.step.{Made.Made, Step.TheVariants.Look}}
use Rattle.pas_plain.proofs.Desks.{can, spare}
use Rattle.pas_tests.{specs.Walks.{HasMade, view_with}, proofs.Walked.{at, has_made, one_event}}
use Rattle.pas_tests.proofs.walking.walk.Goals as goal

abbrev no_step : Made
no_step = made (Look Word.Epoch) 0

pub loop-made-init : goal.loop-made-init
loop-made-init c = record { view = []; has_made = c.requires.none; follow = c.requires.steps; few = omega arith; whole = refl }

pub make-answer-requires-clause-can : goal.make-answer-requires-clause-can
make-answer-requires-clause-can c =
    let i = c.loop-made.invariant in
    let may = rw (drop_more c.args.steps.now c.loop-made.made-index no_step c.loop-made-test.true) at i.follow in
    can _ (at i.has_made) may.0 may.1

pub make-answer-requires-clause-room : goal.make-answer-requires-clause-room
make-answer-requires-clause-room c =
    let i = c.loop-made.invariant in
    let left = spare 1 (at i.has_made) (omega (arith, i.few, c.loop-made-test.true, c.requires.few)) in
    omega (arith, left, one_event (get_or c.args.steps.now c.loop-made.made-index no_step).step)

pub loop-made-preserved : goal.loop-made-preserved
loop-made-preserved c =
    let i = c.loop-made.invariant in
    let steps = c.args.steps.now in
    let index = c.loop-made.made-index in
    let may = rw (drop_more steps index no_step c.loop-made-test.true) at i.follow in
    record {
      view = _;
      has_made = has_made (get_or steps index no_step) i.has_made may.1 may.2 c.make-answer.ensures.makes;
      follow = may.3;
      few = omega (arith, i.few);
      whole = sym (at_drop_more (view_with i.view) steps index no_step c.loop-made-test.true) ∙ i.whole;
    }

pub returns : goal.returns
returns c =
    let i = c.loop-made.invariant in
    subst (λ (v : View). HasMade v c.loop-made.desk) (sym (at_drop_all (view_with i.view) c.args.steps.now c.loop-made.made-index c.loop-made-test.false) ∙
    i.whole) i.has_made
