use Rattle.std.proofs.Common.{◌≤◌, ◌+◌, refl, ◌∙◌, subst, sym, arith}
use Rattle.pas_large.{specs.Claims.ClaimsPages, proofs.Claims.{none_claimed, may_claim, rest_call, room_after, won_turn, lost_turn, broken_turn}}
use Rattle.pas_large.proofs.running.claim_pages.Goals as goal

pub loop-page-init : goal.loop-page-init
loop-page-init g c = record { below = none_claimed c.args.deeds c.args.directory c.args.first; home = refl }

pub claim_lowest-requires-clause-region : goal.claim_lowest-requires-clause-region
claim_lowest-requires-clause-region g c = subst (λ s. c.args.end ≤ s.profile.pages + 1) (sym c.loop-page.invariant.below.so_far.adds.seat_is) c.requires.region

pub claim_lowest-requires-clause-can : goal.claim_lowest-requires-clause-can
claim_lowest-requires-clause-can g c = let i = c.loop-page.invariant in rest_call c.args.end i.below c.loop-page-test.true (may_claim c.args.end (omega arith) c.requires.can)

pub claim_lowest-requires-clause-room : goal.claim_lowest-requires-clause-room
claim_lowest-requires-clause-room g c = let i = c.loop-page.invariant in let test = c.loop-page-test.true in
    let room = room_after {spare = g.D.Desk.spare_of c.args.desk.now} 1 i.below.so_far.adds (may_claim _ (omega (arith, test)) c.requires.can) i.below.so_far.shows c.requires.can.met.room (g.met.D.Desk.spares c.args.desk.now) (g.met.D.Desk.spares _) in omega (arith, room)

pub loop-page-preserved : goal.loop-page-preserved
loop-page-preserved g c = let i = c.loop-page.invariant in record { below = won_turn i.below c.in-Whole.ensures.claims; home = c.in-Whole.ensures.home ∙ i.home }

pub returns-in-Lost-clause-claims : goal.returns-in-Lost-clause-claims
returns-in-Lost-clause-claims g c = let h = c.in-Lost.ensures.claims in let i = c.loop-page.invariant in lost_turn _ i.below c.loop-page-test.true h h.outcome

pub returns-in-Broken-clause-claims : goal.returns-in-Broken-clause-claims
returns-in-Broken-clause-claims g c = let h = c.in-Broken.ensures.claims in let i = c.loop-page.invariant in broken_turn _ i.below c.loop-page-test.true h h.outcome

pub returns-clause-claims : goal.returns-clause-claims
returns-clause-claims g c = let past = c.loop-page-test.false in let most = c.loop-page.auto.page-end c.requires.span in
    subst (λ p. ClaimsPages c.args.deeds c.args.directory c.args.first p (g.D.Desk.standing c.args.desk.now) (g.D.Desk.standing c.loop-page.desk) p) (omega (arith, past, most)) c.loop-page.invariant.below.so_far
