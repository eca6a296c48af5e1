use Rattle.std.proofs.{Common.{ℕ, get_or, replicate, None, refl, sym, subst, take_all}, lemmas.List.get_or-replicate}
use Rattle.pas_profile.specs.{Profiles.IsWordOf, declared.word.Word.Word}
use Rattle.pas_steps.{specs.{Effects.target, States.profile_of, declared.step.Step.{Step, TheVariants.Look}}, proofs.Running.{step_at, at_actor, at_ranged}}
use Rattle.pas_steps.proofs.Running.{at_word, so_far_first, so_far_next, so_far_last}
use Rattle.pas_steps.proofs.run.run_steps.Goals as goal

pub loop-actor-init : goal.loop-actor-init
loop-actor-init c = so_far_first c.args.list.now c.args.state (replicate 17 None) c.requires.opening refl (λ k small. get_or-replicate 17 k None None small)

-- the step of an iteration
abbrev nothing : ℕ × Step
nothing = (0, Look Word.Epoch)

pub bounds-epochs-actor : goal.bounds-epochs-actor
bounds-epochs-actor c = at_actor _ c.args.list.now _ _ c.args.state.valid (step_at _ c.args.list.now _ nothing c.requires.legal c.loop-actor-test.true)

pub make-requires-clause-of_region : goal.make-requires-clause-of_region
make-requires-clause-of_region c =
    let here : IsWordOf (profile_of c.args.state) (target (get_or c.args.list.now c.loop-actor.actor-index nothing).1)
    = at_word _ c.args.list.now _ _ (step_at _ c.args.list.now c.loop-actor.actor-index nothing c.requires.legal c.loop-actor-test.true) in
    subst (λ f. IsWordOf f (target (get_or c.args.list.now c.loop-actor.actor-index nothing).1)) (sym c.loop-actor.invariant.profile) here

pub make-requires-clause-ranged : goal.make-requires-clause-ranged
make-requires-clause-ranged c = at_ranged _ c.args.list.now _ _ c.args.state.valid (step_at _ c.args.list.now _ nothing c.requires.legal c.loop-actor-test.true)

pub bounds-epochs-actor-in-loop-actor : goal.bounds-epochs-actor-in-loop-actor
bounds-epochs-actor-in-loop-actor c = at_actor _ _ _ _ c.args.state.valid (step_at _ c.args.list.now _ nothing c.requires.legal c.loop-actor-test.true)

pub loop-actor-preserved : goal.loop-actor-preserved
loop-actor-preserved c = so_far_next _ c.args.list.now _ nothing _ c.make.new.state _ _ c.make.result c.args.state.valid c.requires.legal c.loop-actor-test.true
    c.loop-actor.invariant refl c.make.ensures.stepped c.make.ensures.epoch

pub returns-clause-profile : goal.returns-clause-profile
returns-clause-profile c = c.loop-actor.invariant.profile

pub returns-clause-words : goal.returns-clause-words
returns-clause-words c = so_far_last _ c.args.list.now _ c.loop-actor.state _ c.loop-actor.invariant (take_all _ c.args.list.now c.loop-actor-test.false)
