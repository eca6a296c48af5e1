use Rattle.std.proofs.Common.{refl, ◌∙◌, arith}
use Rattle.pas_large.proofs.Finds.{searched_none, none_searched, finds_none, can_claim_run, goes_on, never_alone, finds_run, may_find}
use Rattle.pas_large.proofs.finding.find_run.Goals as goal

pub loop-first-init : goal.loop-first-init
loop-first-init g c = record { low = omega arith; so_far = searched_none _ c.args.pages _; alone = λ k l legal met. none_searched _ _ c.args.pages c.requires.pages; home = refl }

pub returns-clause-finds : goal.returns-clause-finds
returns-clause-finds g c = let i = c.loop-first.invariant in finds_none i.so_far i.low _ (λ t v l stood. g.met.D.Desk.told _ v l t stood)
    (λ t v l stood. g.met.D.Desk.told_part _ v l t stood) tt i.alone c.in_default.ensures.found

pub claim_run-requires-clause-can : goal.claim_run-requires-clause-can
claim_run-requires-clause-can g c = let i = c.loop-first.invariant in
    can_claim_run i.so_far i.low c.in-Some.ensures.found _ _ c.requires.can (g.met.D.Desk.spares c.args.desk.now) (g.met.D.Desk.spares c.next_run.new.desk)

pub returns-in-None-clause-finds : goal.returns-in-None-clause-finds
returns-in-None-clause-finds g c = let i = c.loop-first.invariant in finds_run i.so_far i.low c.in-Some.ensures.found g.D.Desk.tells
    (λ t v l stood. g.met.D.Desk.told _ v l t stood) (λ t v l stood. g.met.D.Desk.told_part _ v l t stood) tt c.in-None.ensures.claims

pub loop-first-preserved : goal.loop-first-preserved
loop-first-preserved g c = let i = c.loop-first.invariant in record {
  low = omega arith;
  so_far = goes_on i.so_far i.low c.in-Some.ensures.found (may_find c.requires.can) c.in-Some-claim_run.page c.in-Some-claim_run.ensures.claims;
  alone = search (arith, never_alone, g.met.D.Desk.valid);
  home = c.in-Some-claim_run.ensures.home ∙ c.in-Some.ensures.home ∙ i.home;
}
