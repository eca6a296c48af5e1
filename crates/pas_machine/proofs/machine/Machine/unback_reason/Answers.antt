use Rattle.pas_machine.{specs.{State.epoch_in, declared.places.Page.Page}, proofs.Verdicts.{not_outside, unback_before, backed_now, untouched, page_is}}
use Rattle.pas_machine.proofs.{Verdicts.unback_lives, machine.Machine.unback_reason.Goals.then-epoch-last-via-then-epoch-last}
use Rattle.std.proofs.Common.{◌+◌, ◌<◌, ◌≤◌, false, subst, arith}
use Rattle.pas_machine.proofs.machine.Machine.unback_reason.Goals as goal

pub returns-then-is_some_covered-clause-verdict : goal.returns-then-is_some_covered-clause-verdict
returns-then-is_some_covered-clause-verdict c k es shows =
    let f = c.args.self.now.profile in
    let p = page_is f _ _ _ es shows c.args.page c.if-is_outside.ensures.1 c.args.self.now.pages.len c.args.self.now.pages.ok.0 c.args.self.now.pages_sized c.index.result.now c.index.ensures in
    unback_lives f _ _ _ es shows k c.args.page c.args.epoch c.if-is_outside.ensures c.index.result.now p c.if-not-index.false
    (rw c.deref.ensures.value at c.if-is_some_covered.ensures)

pub returns-then-epoch-last-clause-verdict : goal.returns-then-epoch-last-clause-verdict
returns-then-epoch-last-clause-verdict c k es shows =
    let f = c.args.self.now.profile in
    let p = page_is f _ _ _ es shows c.args.page c.if-is_outside.ensures.1 c.args.self.now.pages.len c.args.self.now.pages.ok.0 c.args.self.now.pages_sized c.index.result.now c.index.ensures in
    let q = page_is f _ _ _ es shows c.args.page c.if-is_outside.ensures.1 c.args.self.now.pages.len c.args.self.now.pages.ok.0 c.args.self.now.pages_sized c.index-2.result.now c.index-2.ensures in
    let young : c.args.epoch < c.index-2.result.now.epoch + f.age = search (arith, then-epoch-last-via-then-epoch-last) in
    record {
      applies = subst (λ (q' : Page). c.args.epoch < q'.epoch + f.age) q young;
      others = unback_before f es k c.args.page c.args.epoch 8 (λ _. not_outside f c.args.page c.if-is_outside.ensures)
          (λ _. backed_now es c.args.page c.index-2.result.now q (search arith))
          (λ _. untouched f _ _ _ es shows c.args.page c.if-is_outside.ensures (rw c.deref.ensures.value at c.if-is_some_covered.ensures))
          (λ lt. absurd (omega (arith, lt)));
    }

pub returns-clause-verdict : goal.returns-clause-verdict
returns-clause-verdict c k es shows =
    let f = c.args.self.now.profile in
    let p = page_is f _ _ _ es shows c.args.page c.if-is_outside.ensures.1 c.args.self.now.pages.len c.args.self.now.pages.ok.0 c.args.self.now.pages_sized c.index.result.now c.index.ensures in
    let q = page_is f _ _ _ es shows c.args.page c.if-is_outside.ensures.1 c.args.self.now.pages.len c.args.self.now.pages.ok.0 c.args.self.now.pages_sized c.index-2.result.now c.index-2.ensures in
    let old : c.index-2.result.now.epoch + f.age ≤ c.args.epoch = omega arith in
    λ reason. let old' : epoch_in es c.args.page + f.age ≤ c.args.epoch = subst (λ (q' : Page). q'.epoch + f.age ≤ c.args.epoch) q old in
    unback_before f es k c.args.page c.args.epoch 12 (λ _. not_outside f c.args.page c.if-is_outside.ensures)
    (λ _. backed_now es c.args.page c.index-2.result.now q (search arith))
    (λ _. untouched f _ _ _ es shows c.args.page c.if-is_outside.ensures (rw c.deref.ensures.value at c.if-is_some_covered.ensures))
    (λ _ young. omega (arith, old', young)) reason (grind arith)
