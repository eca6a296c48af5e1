use Rattle.std.proofs.Common.{sym, ◌∙◌, subst}
use Rattle.pas_threads.proofs.{Common.{same_Some, so_far, StandsIn}, Staging.{all_up, stands_with, all_stand}}
use Rattle.pas_threads.proofs.settling.settle.Goals as goal

pub settle_with-pass-requires-clause-pass : goal.settle_with-pass-requires-clause-pass
settle_with-pass-requires-clause-pass c = (stands_with c.in-Some.pass (sym c.take.ensures.value ∙ c.in-Some.is) c.requires.stand.2.scavenger).0

pub settle_with-pass-requires-clause-workers : goal.settle_with-pass-requires-clause-workers
settle_with-pass-requires-clause-workers c = all_up c.requires.stand.2

pub returns-clause-stand : goal.returns-clause-stand
returns-clause-stand c = λ s l at.
    let there = c.settle_with-pass.ensures.stand in
    let then = so_far c.settle_with-pass.new.ledger in
    all_stand at then (λ pass is. subst (StandsIn then) (same_Some c.in-Some.pass pass (sym c.in-Some.is ∙ c.take.ensures.value ∙ is)) there.0) there.2
