use Rattle.std.proofs.Common.{◌≡◌, ◌≢◌, ◌∙◌, refl, sym, subst, arith, get_or-set_other}
use Rattle.pas_threads.proofs.{Common.{HasPass, Worker}, CrewSits.{seats_go_on, seats_end}}
use Rattle.pas_threads.proofs.lending.seat_lent.Goals as goal

pub loop-index-init : goal.loop-index-init
loop-index-init c = record {
  of = c.requires.of;
  left = λ j d from. refl;
  far = λ s p lent crew tell. record { each = λ j d less within. absurd (omega (arith, less)); crew = crew; tell = tell };
}

pub seat_one-requires-clause-has : goal.seat_one-requires-clause-has
seat_one-requires-clause-has c =
    let r = c.requires.lent in
    let i = c.loop-index.index in
    let d = c.index-lent-index.result in
    subst (λ (w : Worker). HasPass c.args.region.now w.pass) (sym (c.loop-index.invariant.left i d (omega arith))) (r.2.each i d c.loop-index-test.true).has

pub loop-index-preserved : goal.loop-index-preserved
loop-index-preserved c =
    let inv = c.loop-index.invariant in
    let i = c.loop-index.index in
    let w = c.seat_one.new.worker in
    record {
      of = c.seat_one.ensures.of;
      left = λ j e from. let ne : j ≢ i = λ (is : j ≡ i). omega (arith, is, from) in get_or-set_other _ i j w e ne ∙ inv.left j e (omega (arith, from));
      far = λ s p lent crew tell.
          seats_go_on c.index-lent-index.result w c.loop-index-test.true c.loop-index.auto.lent lent (inv.left i _ (omega arith)) (inv.far s p lent crew tell)
          c.seat_one.ensures.seated;
    }

pub returns-clause-seated : goal.returns-clause-seated
returns-clause-seated c = λ s p lent crew tell. seats_end c.loop-index-test.false c.loop-index.auto.index-end c.loop-index.auto.lent lent (c.loop-index.invariant.far s p lent crew tell)
