use Rattle.std.proofs.Common.{◌≡◌, ◌+◌, ◌-◌, ◌++◌, refl, ap, sym, ◌∙◌, subst, arith, length-append}
use Rattle.pas_profile.specs.declared.profile.Profile.{Profile}
use Rattle.pas_steps.proofs.{Adding.adds_call, Apart.only_both}
use Rattle.pas_scan.{specs.{Runs.{large_directory, page_looks}, Passed.held_looks}, proofs.LeftPages.{left_alone_by, RunSoFar, run_none, run_more, run_found}}
use Rattle.pas_scan.proofs.{LeftPages.{run_ended, run_past, held_kinds, kept_after, kept_is}, ToldLooks.held_many}
use Rattle.pas_scan.proofs.runs.next_run.Goals as goal

pub loop-page-init : goal.loop-page-init
loop-page-init g c =
    let h = c.pass_held-first.ensures.passes in let d = large_directory c.args.heap in let next = c.args.next in
    let pages : c.profile.result.now.pages ≡ (g.D.Desk.standing c.args.desk.now).seat.profile.pages = ap (λ (x : Profile). x.pages) c.profile.ensures in
    let count = held_many d h.deeds h.offered next h.many in let at = h.at in let few = h.few in
    let looks = held_looks d h.deeds h.offered next h.many in let first = c.pass_held-first.result in
    let length_is : c.kept-length.result ≡ kept_after (next - c.args.from) h.many = cc (kept_is next (next - c.args.from) h.many) in
    record {
      steps = looks;
      adds = h.adds;
      kinds = held_kinds d h.deeds h.offered next h.many;
      few = omega (arith, count, at);
      most = omega (arith, count, few, pages);
      so_far = subst (λ n. RunSoFar d c.args.from next c.args.pages first n looks) (sym length_is)
          (subst (λ p. RunSoFar d c.args.from next c.args.pages p (kept_after (next - c.args.from) h.many) looks) at
          (run_past d c.args.from next c.args.pages (next - c.args.from) h.many h.deeds h.offered c.requires.read
          (run_none d c.args.from next c.args.pages (next - c.args.from) c.requires.read c.requires.short refl)
          (λ p low high. h.of p low (omega (arith, high, at))) (λ p low high. h.held p low (omega (arith, high, at)))));
      home = c.pass_held-first.ensures.home;
    }

pub returns-then-length-pages-clause-found : goal.returns-then-length-pages-clause-found
returns-then-length-pages-clause-found g c =
    let i = c.loop-page.invariant in let h = c.is_usable-usable.ensures.reads in let page = c.loop-page.page in let d = large_directory c.args.heap in
    let f : Profile = (g.D.Desk.standing c.args.desk.now).seat.profile in
    let pages : c.profile.result.now.pages ≡ f.pages = ap (λ (x : Profile). x.pages) c.profile.ensures in
    record {
      steps = h.steps ++ i.steps;
      adds = adds_call i.adds h.adds (λ v l stood met. tt);
      kinds = only_both page_looks h.steps i.steps h.kinds i.kinds;
      few = (let n = length-append h.steps i.steps in let is = sym c.longer-length.ensures ∙ c.if-length-pages.true in omega (arith, n, h.few, i.few, i.so_far.within, is));
      outcome = run_found f d _ _ _ page c.loop-page.length h.steps i.steps _ (omega (arith, c.requires.read, c.requires.short)) (left_alone_by page_looks refl refl page i.steps i.kinds)
          (omega (arith, c.loop-page-test.true, pages)) i.so_far h.deed h.outcome (sym c.longer-length.ensures ∙ c.if-length-pages.true);
    }

pub loop-page-preserved : goal.loop-page-preserved
loop-page-preserved g c =
    let i = c.loop-page.invariant in let h = c.is_usable-usable.ensures.reads in let page = c.loop-page.page in let d = large_directory c.args.heap in
    record {
      steps = h.steps ++ i.steps;
      adds = adds_call i.adds h.adds (λ v l stood met. tt);
      kinds = only_both page_looks h.steps i.steps h.kinds i.kinds;
      few = (let n = length-append h.steps i.steps in omega (arith, n, h.few, i.few));
      most = (let n = length-append h.steps i.steps in let pages : c.profile.result.now.pages ≡ (g.D.Desk.standing c.args.desk.now).seat.profile.pages =
          ap (λ (x : Profile). x.pages) c.profile.ensures in omega (arith, n, h.few, i.few, c.loop-page-test.true, pages));
      so_far = subst (λ n. RunSoFar d c.args.from c.args.next c.args.pages (page + 1) n (h.steps ++ i.steps)) (sym c.longer-length.ensures)
          (run_more d _ _ _ page c.loop-page.length h.steps i.steps _ (left_alone_by page_looks refl refl page i.steps i.kinds) (omega (arith, i.few, c.requires.read)) i.so_far h.deed h.outcome
          (λ e. c.if-length-pages.false (c.longer-length.ensures ∙ e)));
      home = c.is_usable-usable.ensures.home ∙ i.home;
    }

pub returns-clause-found : goal.returns-clause-found
returns-clause-found g c =
    let i = c.loop-page.invariant in let d = large_directory c.args.heap in
    let f : Profile = (g.D.Desk.standing c.args.desk.now).seat.profile in
    let pages : c.profile.result.now.pages ≡ f.pages = ap (λ (x : Profile). x.pages) c.profile.ensures in
    record {
      steps = i.steps;
      adds = i.adds;
      kinds = i.kinds;
      few = i.most;
      outcome = run_ended f d _ _ _ c.loop-page.page c.loop-page.length i.steps (omega (arith, c.loop-page-test.false, pages)) i.so_far;
    }
