use Rattle.std.proofs.Common.{arith, List, Option, subst, IfSome}
use Rattle.pas_shared.specs.{Ledgers.EndsAfter, Pasts.told, declared.pass.SharedPass.SharedPass}
use Rattle.pas_trials.{specs.{Handing.IsGiftOf, declared.handing.Gift.Gift}, proofs.HandedOver.is_handed_over}
use Rattle.pas_trials.proofs.handing.hand_over.Goals as goal

pub returns : goal.returns
returns c =
    let region = c.args.region in
    let giver = c.borrow-giver.result.0 in
    let given = subst (λ (o : Option Gift). IfSome o (IsGiftOf region giver)) c.in-Some.is c.borrow-giver.ensures.gift in
    let ends = subst (λ (passes : List SharedPass). EndsAfter region.profile (told c.free-taker.result.1) passes c.close_after.result) c.in_ok-passes.ensures.items c.close_after.ensures in
    search (arith, is_handed_over)
