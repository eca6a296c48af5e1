use Rattle.std.proofs.Common.{arith, ◌+◌, ◌<◌, ◌≤◌, ◌∷◌, refl, subst}
use Rattle.pas_steps.{specs.{Desks.made, declared.step.Step.TheVariants.Unback}, proofs.Adding.{adds_step, can_step}}
use Rattle.pas_scavenger.proofs.Examinations.{two_looks, looked, age_is, allowed}
use Rattle.pas_scavenger.proofs.judging.judge.Goals as goal

pub returns-then-epoch-stamp-clause-judges : goal.returns-then-epoch-stamp-clause-judges
returns-then-epoch-stamp-clause-judges g c =
    let page = c.args.page in let b = c.look.result in let stamp = c.look-stamp.result in
    let age = age_is page c.args.epoch b stamp c.args.used c.look.ensures.makes c.look-stamp.ensures.makes c.profile.result.now c.profile.ensures in
    record {
      steps = two_looks page b stamp;
      adds = looked page c.args.epoch b stamp c.args.used c.look.ensures.makes c.look-stamp.ensures.makes;
      judged = (b, c.in_default.is, c.if-look-eq0.false, subst (λ a. c.args.epoch < stamp + a) age c.if-epoch-stamp.true, refl);
    }

pub unback-requires-clause-can : goal.unback-requires-clause-can
unback-requires-clause-can g c =
    let page = c.args.page in let b = c.look.result in let stamp = c.look-stamp.result in
    can_step (looked page c.args.epoch b stamp c.args.used c.look.ensures.makes c.look-stamp.ensures.makes) c.requires.can c.requires.page
    (allowed page _ b stamp _ c.look.ensures.makes c.look-stamp.ensures.makes _ c.profile.ensures c.in_default.is c.if-look-eq0.false c.if-epoch-stamp.false)

pub returns-clause-judges : goal.returns-clause-judges
returns-clause-judges g c =
    let page = c.args.page in let b = c.look.result in let stamp = c.look-stamp.result in
    let age = age_is page c.args.epoch b stamp c.args.used c.look.ensures.makes c.look-stamp.ensures.makes c.profile.result.now c.profile.ensures in
    record {
      steps = made (Unback page) c.unback.result ∷ two_looks page b stamp;
      adds = search (arith, adds_step, looked, allowed);
      judged = (b, stamp, c.unback.result, c.in_default.is, c.if-look-eq0.false, subst (λ a. stamp + a ≤ c.args.epoch) age c.if-epoch-stamp.false, refl);
    }
