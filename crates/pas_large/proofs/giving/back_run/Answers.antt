use Rattle.std.proofs.Common.{◌+◌, ◌-◌, ◌≤◌, subst, sym, refl, ◌∙◌, arith}
use Rattle.pas_search.proofs.ForBackEnds.{room_after}
use Rattle.pas_large.proofs.{Claims.pages_call, Left.backs_few, Gives.{backed_none, can_back_next, backed_more, back_events}}
use Rattle.pas_large.proofs.giving.back_run.Goals as goal

pub loop-page-init : goal.loop-page-init
loop-page-init g c = record { so_far = backed_none c.args.directory c.args.first; home = refl }

pub back_page-requires-clause-region : goal.back_page-requires-clause-region
back_page-requires-clause-region g c = subst (λ s. c.args.end ≤ s.profile.pages + 1) (sym c.loop-page.invariant.so_far.calls.adds.seat_is) c.requires.region

pub back_page-requires-clause-can : goal.back_page-requires-clause-can
back_page-requires-clause-can g c = let i = c.loop-page.invariant in can_back_next c.args.end i.so_far c.loop-page.auto.page c.loop-page-test.true c.requires.can

pub back_page-requires-clause-room : goal.back_page-requires-clause-room
back_page-requires-clause-room g c = let i = c.loop-page.invariant in let few = backs_few _ _ _ i.so_far.order in let room = c.requires.room in let low = c.loop-page.auto.page in let test = c.loop-page-test.true in
    room_after {spare = g.D.Desk.spare_of _} {spare' = g.D.Desk.spare_of _} 1 _ (pages_call _ c.args.first _ c.args.end (omega (arith, test)) i.so_far.calls).adds c.requires.can
    (λ k v. back_events k v i.so_far.steps) (g.met.D.Desk.spares c.args.desk.now) (g.met.D.Desk.spares c.loop-page.desk) (omega (arith, few, room, test, low))

pub loop-page-preserved : goal.loop-page-preserved
loop-page-preserved g c = let i = c.loop-page.invariant in
    record { so_far = backed_more _ i.so_far c.loop-page.auto.page (omega arith) refl _ c.back_page.ensures.backs.1; home = c.back_page.ensures.home ∙ i.home }

pub returns-clause-backs : goal.returns-clause-backs
returns-clause-backs g c = search (arith, c.loop-page.auto.page-end)
