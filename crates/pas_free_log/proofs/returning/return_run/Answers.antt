use Rattle.std.proofs.Common.{◌≡◌, ◌-◌, [], ◌++◌, refl, ◌∙◌, subst, arith}
use Rattle.pas_steps.{specs.Calls.{Does, Calls}, proofs.Called.{call_none, call_then, next_call}}
use Rattle.pas_free_log.{specs.{Frames.{run_freed, PutsBack}, Stamps.page_count, Returns.{MayReturn, PagesSteps}}, proofs.OneEntry.{back_none, none_freed}}
use Rattle.pas_free_log.proofs.OneEntry.{next_is, back_more, more_freed, order_more, may_more, on_page}
use Rattle.pas_free_log.proofs.returning.return_run.Goals as goal

pub loop-from-init : goal.loop-from-init
loop-from-init g c =
    let σ = g.D.Desk.standing c.args.desk.now in let none : 0 ≡ c.args.grain - c.args.grain = omega arith in
    record {
      steps = [];
      calls = subst (λ k. Calls σ σ (MayReturn c.args.grain c.args.grains) (Does (run_freed c.args.grain k)) []) none (call_none (λ v met. none_freed _ v));
      order = subst (λ k. PagesSteps (page_count c.args.grain k) c.args.grain c.args.grains []) none refl;
      back = subst (λ k. PutsBack c.args.grain k []) none (back_none _);
      low = omega arith;
      high = omega arith;
      border = λ left. omega arith;
      home = refl;
    }

pub return_page-requires-clause-can : goal.return_page-requires-clause-can
return_page-requires-clause-can g c =
    let i = c.loop-from.invariant in let from = c.loop-from.from in let next = c.min-next.result in let f = (g.D.Desk.standing c.args.desk.now).seat.profile in
    next_call i.calls c.requires.can (λ v met d. may_more _ _ from next i.steps v i.low (next_is _ _ from next i.low c.loop-from-test.true c.min-next.ensures) i.back d met)

pub return_page-requires-clause-run : goal.return_page-requires-clause-run
return_page-requires-clause-run g c =
    search (arith, on_page, next_is)

pub loop-from-preserved : goal.loop-from-preserved
loop-from-preserved g c =
    let i = c.loop-from.invariant in let from = c.loop-from.from in let next = c.min-next.result in let f = (g.D.Desk.standing c.args.desk.now).seat.profile in
    let grain = c.args.grain in let grains = c.args.grains in let r = c.return_page.ensures.returns in
    let is = next_is grain grains from next i.low c.loop-from-test.true c.min-next.ensures in
    let some = is.some in let within = is.within in let low = i.low in
    record {
      steps = r.steps ++ i.steps;
      calls = call_then _ i.calls r.calls (λ v met d. may_more grain grains from next i.steps v i.low is i.back d met) (λ v met d e. more_freed grain grains from next i.low c.loop-from-test.true i.border is d e);
      order = order_more grain grains from next r.steps i.steps i.low c.loop-from-test.true i.border c.min-next.ensures i.order r.order;
      back = back_more grain grains from next r.steps i.steps i.low c.loop-from-test.true i.border is i.back r.back;
      low = omega (arith, low, some);
      high = within;
      border = is.border;
      home = c.return_page.ensures.home ∙ i.home;
    }
