use Rattle.std.proofs.{Common.rules, lemmas.Fn.filter_same}
use Rattle.pas_check.proofs.Stretches.{swept_amiss, swept_on}
use Rattle.pas_check.proofs.guarding.sweep.Goals as goal

pub returns-then-not-take_lowered-clause-taken : goal.returns-then-not-take_lowered-clause-taken
returns-then-not-take_lowered-clause-taken c = λ f. swept_amiss (rw c.deref.ensures.value at c.if-not-take_lowered.ensures.taken)

pub returns-clause-taken : goal.returns-clause-taken
returns-clause-taken c = λ f.
    swept_on (rw c.deref.ensures.value at c.if-not-take_lowered.ensures.taken)
    (λ es stands. filter_same _ _ _ (λ guard b g called. search (rules, stands)) _ _ c.retain.ensures.filtered)
