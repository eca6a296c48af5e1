use Rattle.std.proofs.Common.{◌≡◌, ◌+◌, ◌-◌, ◌∷◌, ap, ◌∙◌, arith}
use Rattle.pas_profile.specs.declared.word.Word.{Word}
use Rattle.pas_steps.{specs.{declared.step.{Made.Made, Step.TheVariants.Look}, Frames.IsScan, Desks.made}, proofs.Adding.adds_step}
use Rattle.pas_scan.proofs.Reading.{looks_more, looks_count, looks_scan, looks_single, deed_more, deeds_read, first_none}
use Rattle.pas_scan.proofs.bare.first_without_deed.Goals as goal

pub loop-page-init : goal.loop-page-init
loop-page-init g c =
    search (arith, deeds_read)

pub returns-then-deed-eq0-clause-found : goal.returns-then-deed-eq0-clause-found
returns-then-deed-eq0-clause-found g c =
    let i = c.loop-page.invariant in let page = c.loop-page.page in let a = c.look-deed.result in let step : Made = made (Look (Word.Deed page)) a in
    let pages : c.profile.result.now.pages ≡ (g.D.Desk.standing c.args.desk.now).seat.profile.pages = ap (λ f. f.pages) c.profile.ensures in
    let order = looks_more (λ p. Word.Deed p) c.args.from page a i.steps i.answers i.at i.order in
    record {
      steps = step ∷ i.steps;
      adds = adds_step i.adds c.look-deed.ensures.makes (λ v l stood met. tt);
      scans = looks_scan (λ p. Word.Deed p) c.args.from (λ p. IsScan.LooksDeed p) (step ∷ i.steps) (a ∷ i.answers) order;
      single = looks_single (λ p. Word.Deed p) c.args.from (λ p q e. cc) (step ∷ i.steps) (a ∷ i.answers) order;
      answers = a ∷ i.answers;
      order = order;
      count = looks_count (λ p. Word.Deed p) c.args.from (page + 1 - c.args.from) (step ∷ i.steps) (a ∷ i.answers) order (omega (arith, i.at));
      outcome = first_none (g.D.Desk.standing c.args.desk.now).seat.profile c.args.from page a i.steps c.requires.from (omega (arith, i.at))
          (omega (arith, pages, c.loop-page-test.true)) c.if-deed-eq0.true i.deeds;
    }

pub loop-page-preserved : goal.loop-page-preserved
loop-page-preserved g c =
    let i = c.loop-page.invariant in let page = c.loop-page.page in let a = c.look-deed.result in let step : Made = made (Look (Word.Deed page)) a in
    record {
      steps = step ∷ i.steps;
      adds = adds_step i.adds c.look-deed.ensures.makes (λ v l stood met. tt);
      deeds = deed_more _ page i.steps a i.deeds c.if-deed-eq0.false;
      answers = a ∷ i.answers;
      order = looks_more (λ p. Word.Deed p) _ page a i.steps i.answers i.at i.order;
      at = omega (arith, i.at);
      few = (let pages : c.profile.result.now.pages ≡ (g.D.Desk.standing c.args.desk.now).seat.profile.pages = ap (λ f. f.pages) c.profile.ensures in omega (arith, i.at, pages, c.loop-page-test.true));
      home = c.look-deed.ensures.home ∙ i.home;
    }

pub returns-clause-found : goal.returns-clause-found
returns-clause-found g c =
    let i = c.loop-page.invariant in let pages : c.profile.result.now.pages ≡ (g.D.Desk.standing c.args.desk.now).seat.profile.pages = ap (λ f. f.pages) c.profile.ensures in
    record {
      steps = i.steps;
      adds = i.adds;
      scans = looks_scan (λ p. Word.Deed p) _ (λ p. IsScan.LooksDeed p) i.steps i.answers i.order;
      single = looks_single (λ p. Word.Deed p) _ (λ p q e. cc) i.steps i.answers i.order;
      answers = i.answers;
      order = i.order;
      count = looks_count (λ p. Word.Deed p) _ _ i.steps i.answers i.order (omega (arith, i.at, i.few, pages, c.loop-page-test.false));
      outcome = λ p low high. i.deeds p low (omega (arith, pages, high, c.loop-page-test.false));
    }
