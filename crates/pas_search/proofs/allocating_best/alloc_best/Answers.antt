use Rattle.std.proofs.Common.{arith}
use Rattle.pas_search.proofs.{TheBestPage.can_go_on, Allocated.{room_to_try, room_to_use, is_run, run_within, can_give, room_to_give, no_deed, can_leave}}
use Rattle.pas_search.proofs.Allocated.{allocates_best, allocates_then}
use Rattle.pas_search.proofs.allocating_best.alloc_best.Goals as goal

pub take_best_page-requires-clause-can : goal.take_best_page-requires-clause-can
take_best_page-requires-clause-can g c = room_to_try c.requires.can

pub alloc-requires-clause-can : goal.alloc-requires-clause-can
alloc-requires-clause-can g c = can_go_on c.in_default.ensures.tries c.requires.can (g.met.D.Desk.spares c.args.desk.now)
    (g.met.D.Desk.spares c.take_best_page.new.desk)

pub returns-in_default-clause-allocates : goal.returns-in_default-clause-allocates
returns-in_default-clause-allocates g c =
    allocates_then (g.P.Placing.placement c.args.pages.now.0) c.args.directory c.in_default.ensures.tries c.alloc.ensures.allocates

pub give-block-requires-clause-some : goal.give-block-requires-clause-some
give-block-requires-clause-some g c = search (arith, is_run, g.P.Placing.placement, g.met.P.Placing.is_placement)

pub give-block-requires-clause-within : goal.give-block-requires-clause-within
give-block-requires-clause-within g c = search (arith, run_within, g.P.Placing.placement, g.met.P.Placing.is_placement)

pub give-block-requires-clause-can : goal.give-block-requires-clause-can
give-block-requires-clause-can g c = let tries = c.in-Some.ensures.tries in
    can_give (g.P.Placing.placement c.args.pages.now.0) (g.met.P.Placing.is_placement c.args.pages.now.0) c.requires.suits.0 c.args.directory
    c.requires.directory c.in-Some.served tries.adds tries.outcome (room_to_use c.requires.can)

pub give-block-requires-clause-room : goal.give-block-requires-clause-room
give-block-requires-clause-room g c = let tries = c.in-Some.ensures.tries in let p = g.P.Placing.placement c.args.pages.now.0 in
    room_to_give p (g.met.P.Placing.is_placement c.args.pages.now.0) c.requires.suits.0 c.args.directory c.requires.directory c.in-Some.served
    tries.adds tries.outcome (no_deed p c.args.directory c.in-Some.served tries) (g.met.D.Desk.spares c.args.desk.now)
    (g.met.D.Desk.spares c.take_best_page.new.desk) (room_to_use c.requires.can)

pub leave-requires-clause-can : goal.leave-requires-clause-can
leave-requires-clause-can g c = let tries = c.in-Some.ensures.tries in
    can_leave (g.P.Placing.placement c.args.pages.now.0) (g.met.P.Placing.is_placement c.args.pages.now.0) c.requires.suits.0 c.args.directory
    c.requires.directory c.in-Some.served tries.adds tries.outcome c.give-block.result c.give-block.ensures.gives (room_to_use c.requires.can)

pub returns-clause-allocates : goal.returns-clause-allocates
returns-clause-allocates g c =
    allocates_best (g.P.Placing.placement c.args.pages.now.0) (g.met.P.Placing.is_placement c.args.pages.now.0) c.requires.suits.0 c.args.directory
    c.requires.directory c.in-Some.served c.in-Some.ensures.tries c.give-block.result c.give-block.ensures.gives c.leave.ensures.leaves
