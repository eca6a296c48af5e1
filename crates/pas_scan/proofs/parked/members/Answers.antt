use Rattle.std.proofs.Common.{◌≡◌, ◌+◌, ◌*◌, ◌/◌, ◌≤◌, min, ◌∷◌, length, refl, ap, sym, ◌∙◌, subst, arith}
use Rattle.pas_profile.specs.declared.word.Word.{Word}
use Rattle.pas_steps.{specs.{declared.step.{Made.Made, Step.TheVariants.Look}, Desks.made}, proofs.Adding.adds_step}
use Rattle.pas_scan.{specs.Scan.InBlock, proofs.Reading.{Below, AreOf, passed_in, passed_below, passed_members, looks_single, looks_count, single_more}}
use Rattle.pas_scan.proofs.Reading.{below_more, members_more, IsSpan, span_block, span_first, span_some, span_end, span_page}
use Rattle.pas_scan.proofs.parked.members.Goals.{then-is_open, else-is_open}
use Rattle.pas_scan.proofs.parked.members.Goals as goal

pub loop-page-init : goal.loop-page-init
loop-page-init g c =
    let h = c.pass_deeds-start.ensures.passes in let looked = c.args.looked.now in let f = (g.D.Desk.standing c.args.desk.now).seat.profile in
    let first = c.max-first.result in let end = c.min-end.result in
    let span : IsSpan c.args.block f.pages first end = record { first_is = c.max-first.ensures; end_is = c.min-end.ensures ∙ ap (λ f. min (c.args.block * 64 + 64) (f.pages + 1)) c.profile.ensures } in
    let some = span_some c.args.block f.pages first end span c.requires.block (g.met.D.Desk.valid c.args.desk.now).some_page in
    let at : AreOf c.args.block first h.answers = λ p low high. span_block c.args.block f.pages first end p span low (omega (arith, high, h.few, some)) in
    record {
      steps = h.steps;
      adds = h.adds;
      deeds = subst (λ xs. InBlock c.args.block xs) (sym h.order) (passed_in c.args.block first h.answers at);
      single = looks_single (λ p. Word.Deed p) first (λ p q e. cc) h.steps h.answers h.order;
      below = subst (λ n. Below (n + n / 64) h.steps) h.at (subst (λ xs. Below (first + length h.answers + (first + length h.answers) / 64) xs) (sym h.order) (passed_below c.args.block first h.answers));
      members = search (arith, passed_members);
      count = ap (λ n. first + n) (looks_count (λ p. Word.Deed p) first (length h.answers) h.steps h.answers h.order refl) ∙ h.at;
      home = c.pass_deeds-start.ensures.home;
    }

pub loop-page-preserved : goal.loop-page-preserved
loop-page-preserved g c =
    let i = c.loop-page.invariant in let page = c.loop-page.page in let a = c.look-deed.result in let step : Made = made (Look (Word.Deed page)) a in let looked = c.args.looked.now in
    let span : IsSpan c.args.block (g.D.Desk.standing c.args.desk.now).seat.profile.pages c.max-first.result c.min-end.result = record { first_is = c.max-first.ensures; end_is = c.min-end.ensures ∙ ap (λ f. min (c.args.block * 64 + 64) (f.pages + 1)) c.profile.ensures } in
    let at : page / 64 ≡ c.args.block = span_block _ (g.D.Desk.standing c.args.desk.now).seat.profile.pages _ _ page span (omega (arith, i.count)) c.loop-page-test.true in
    record {
      steps = step ∷ i.steps;
      adds = adds_step i.adds c.look-deed.ensures.makes (λ v l stood met. tt);
      deeds = ((page, refl, at), i.deeds);
      single = single_more _ step i.steps i.below (omega arith) i.single;
      below = (omega arith, below_more _ _ i.steps (omega arith) i.below);
      members = search (arith, members_more, then-is_open, else-is_open);
      count = omega (arith, i.count);
      home = c.look-deed.ensures.home ∙ i.home;
    }

pub returns-clause-members : goal.returns-clause-members
returns-clause-members g c =
    let i = c.loop-page.invariant in let page = c.loop-page.page in let looked = c.args.looked.now in
    let span : IsSpan c.args.block (g.D.Desk.standing c.args.desk.now).seat.profile.pages c.max-first.result c.min-end.result = record { first_is = c.max-first.ensures; end_is = c.min-end.ensures ∙ ap (λ f. min (c.args.block * 64 + 64) (f.pages + 1)) c.profile.ensures } in
    let f = (g.D.Desk.standing c.args.desk.now).seat.profile in let first = c.max-first.result in let end = c.min-end.result in
    let past : end ≤ page = c.loop-page-test.false in
    let some = span_some _ f.pages first end span c.requires.block (g.met.D.Desk.valid c.args.desk.now).some_page in let h = c.pass_deeds-start.ensures.passes in
    let exact : page ≤ end = c.loop-page.auto.page-end (let at = h.at in let few = h.few in omega (arith, at, few, some)) in
    record {
      steps = i.steps;
      adds = i.adds;
      deeds = i.deeds;
      single = i.single;
      few = (omega (arith, i.count, exact, c.max-first.ensures, span.end_is));
      members = λ v p at is. i.members.all v p at (span_first _ f.pages first end p span at is.of_region.0)
          (let lt = span_end _ f.pages first end p span at is.of_region.1 in omega (arith, lt, past)) is.of_directory is.unmarked;
      only = λ v p at bit. let old = i.members.only v p at bit in record { of_region = span_page f _ first end p span old.0 (omega (arith, old.1, exact)); of_directory = old.2; unmarked = old.3 };
    }
