use Rattle.std.proofs.Common.{[], ◌++◌, refl, ◌∙◌, subst, sym, add-one, arith}
use Rattle.pas_profile.specs.Profiles.{IsPage}
use Rattle.pas_steps.proofs.Called.{call_none, next_call}
use Rattle.pas_rights.{specs.Puts.PutsBelow, proofs.Puts.{may_put_word, puts_none, puts_more, puts_all}}
use Rattle.pas_rights.proofs.putting.put.Goals as goal

pub loop-word-init : goal.loop-word-init
loop-word-init g c = record { steps = []; order = refl; calls = call_none (λ v met. puts_none c.args.page c.args.mask.now v); home = refl }

pub put_word-requires-clause-page : goal.put_word-requires-clause-page
put_word-requires-clause-page g c = subst (λ s. IsPage s.profile c.args.page) (sym c.loop-word.invariant.calls.adds.seat_is) c.requires.page

pub put_word-requires-clause-can : goal.put_word-requires-clause-can
put_word-requires-clause-can g c = search (arith, next_call, may_put_word)

pub loop-word-preserved : goal.loop-word-preserved
loop-word-preserved g c = let i = c.loop-word.invariant in let p = c.put_word.ensures.puts in record {
  steps = p.steps ++ i.steps;
  order = subst (λ n. PutsBelow c.args.page c.args.mask.now n (p.steps ++ i.steps)) (sym (add-one c.loop-word.word)) (p.steps, i.steps, p.order, i.order, refl);
  calls = puts_more _ _ c.loop-word.word i.steps i.order i.calls p;
  home = c.put_word.ensures.home ∙ i.home;
}

pub returns-clause-puts : goal.returns-clause-puts
returns-clause-puts g c = search (arith, puts_all)
