use Rattle.std.proofs.Common.{◌≡◌, ◌+◌, ◌-◌, ◌/◌, ◌++◌, refl, ap, ◌∙◌, arith, length-append}
use Rattle.pas_profile.specs.declared.profile.Profile.{Profile}
use Rattle.pas_steps.{specs.Desks.AnyView, proofs.Adding.adds_call}
use Rattle.pas_scan.proofs.Reading.{count_of, scans_of, single_of, row_after, shown_within, row_zeros, row_one, words_later, zeros_later}
use Rattle.pas_scan.proofs.offered.first_offered.Goals as goal

pub loop-block-preserved : goal.loop-block-preserved
loop-block-preserved g c =
    let i = c.loop-block.invariant in let d = c.args.looked.now.directory in
    let next = c.args.looked.now.next in let block = c.loop-block.block in let r = c.read_row-row.ensures.reads in let end = c.min-row_end.result in
    let pages : c.profile.result.now.pages ≡ (g.D.Desk.standing c.args.desk.now).seat.profile.pages = ap (λ (f : Profile). f.pages) c.profile.ensures in
    let ends = c.min-row_end.ensures in let within = c.loop-block-test.true in
    let order = row_after _ _ block r.steps i.steps r.answers i.answers i.at r.order i.order in
    record {
      steps = r.steps ++ i.steps;
      adds = adds_call {D = AnyView} i.adds r.adds (λ v l stood met. tt);
      answers = r.answers ++ i.answers;
      order = order;
      at = omega (arith, i.at, r.count, length-append r.answers i.answers);
      few = omega (arith, i.at, r.count, length-append r.answers i.answers, pages, ends, within);
      zeros = row_zeros d next block end _ _ (r.steps ++ i.steps) (scans_of _ _ (r.answers ++ i.answers) (r.steps ++ i.steps) order) (zeros_later d next _ r.steps i.steps i.zeros)
          (words_later _ block end _ r.steps i.steps r.words) (λ p low here high. c.in_default.ensures p low here) (omega arith);
      looked = i.looked;
      home = c.read_row-row.ensures.home ∙ i.home;
    }

pub returns-in-Some-clause-found : goal.returns-in-Some-clause-found
returns-in-Some-clause-found g c =
    let i = c.loop-block.invariant in let d = c.args.looked.now.directory in
    let next = c.args.looked.now.next in let block = c.loop-block.block in let r = c.read_row-row.ensures.reads in let end = c.min-row_end.result in
    let f = (g.D.Desk.standing c.args.desk.now).seat.profile in let page = c.in-Some.page in let lowest = c.in-Some.ensures in let can = c.requires.can in
    let pages : c.profile.result.now.pages ≡ f.pages = ap (λ (x : Profile). x.pages) c.profile.ensures in
    let ends = c.min-row_end.ensures in let within = c.loop-block-test.true in
    let order = row_after _ _ block r.steps i.steps r.answers i.answers i.at r.order i.order in
    let adds = adds_call {D = AnyView} i.adds r.adds (λ v l stood met. tt) in
    let here = shown_within _ block end page r.rest lowest.from_block lowest.shown in
    let row : page / 512 ≡ block / 8 = omega (arith, lowest.from_block, here, ends) in
    record {
      steps = r.steps ++ i.steps;
      adds = adds;
      scans = scans_of _ _ (r.answers ++ i.answers) (r.steps ++ i.steps) order;
      single = single_of _ _ (r.answers ++ i.answers) (r.steps ++ i.steps) order;
      answers = r.answers ++ i.answers;
      order = order;
      count = count_of _ _ _ (r.steps ++ i.steps) (r.answers ++ i.answers) order (omega (arith, i.at, r.count, length-append r.answers i.answers, pages, ends, row));
      outcome = (
        refl,
        row_one f d next _ block end page _ (r.answers ++ i.answers) (r.steps ++ i.steps) can.view c.requires.directory.kind (adds.agreed can.view can.whole can.stood tt) order
            (zeros_later d next _ r.steps i.steps i.zeros) (words_later _ block end _ r.steps i.steps r.words) here lowest,
      );
    }

pub returns-clause-found : goal.returns-clause-found
returns-clause-found g c =
    let i = c.loop-block.invariant in let d = c.args.looked.now.directory in let next = c.args.looked.now.next in
    let f = (g.D.Desk.standing c.args.desk.now).seat.profile in
    let pages : c.profile.result.now.pages ≡ f.pages = ap (λ (x : Profile). x.pages) c.profile.ensures in
    let past = c.loop-block-test.false in
    record {
      steps = i.steps;
      adds = i.adds;
      scans = scans_of _ _ i.answers i.steps i.order;
      single = single_of _ _ i.answers i.steps i.order;
      answers = i.answers;
      order = i.order;
      count = count_of _ _ (f.pages / 64 + 1 - next / 64) i.steps i.answers i.order (omega (arith, i.at, i.few, pages, past));
      outcome = (ap (λ x. x.next) i.looked, λ p low high. i.zeros p low (omega (arith, pages, high, past)));
    }
