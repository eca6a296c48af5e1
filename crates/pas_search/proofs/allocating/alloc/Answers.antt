use Rattle.std.proofs.Common.{arith, Ok, Err}
use Rattle.pas_search.proofs.{Sessions.{can_ask_again, room_left}, Allocated.{may_search, room_to_search, is_run, run_within, can_give, room_to_give, one_deed}}
use Rattle.pas_search.proofs.Allocated.{can_leave, allocates, refuses}
use Rattle.pas_search.proofs.allocating.alloc.Goals as goal

pub find_page-requires-clause-can : goal.find_page-requires-clause-can
find_page-requires-clause-can g c = room_to_search c.requires.can

pub give-block-requires-clause-some : goal.give-block-requires-clause-some
give-block-requires-clause-some g c = search (arith, is_run, g.P.Placing.placement, g.met.P.Placing.is_placement)

pub give-block-requires-clause-within : goal.give-block-requires-clause-within
give-block-requires-clause-within g c = search (arith, run_within, g.P.Placing.placement, g.met.P.Placing.is_placement)

pub give-block-requires-clause-can : goal.give-block-requires-clause-can
give-block-requires-clause-can g c = let searches = c.in-Ok.ensures.searches in
    can_give (g.P.Placing.placement c.args.pages.now.0) (g.met.P.Placing.is_placement c.args.pages.now.0) c.requires.suits.0 c.args.directory
    c.requires.directory c.in-Ok.served searches.adds searches.outcome c.requires.can

pub give-block-requires-clause-room : goal.give-block-requires-clause-room
give-block-requires-clause-room g c = let searches = c.in-Ok.ensures.searches in let p = g.P.Placing.placement c.args.pages.now.0 in
    room_to_give p (g.met.P.Placing.is_placement c.args.pages.now.0) c.requires.suits.0 c.args.directory c.requires.directory c.in-Ok.served
    searches.adds searches.outcome (one_deed p c.args.directory c.in-Ok.served searches) (g.met.D.Desk.spares c.args.desk.now)
    (g.met.D.Desk.spares c.find_page.new.desk) c.requires.can

pub leave-requires-clause-can : goal.leave-requires-clause-can
leave-requires-clause-can g c = let searches = c.in-Ok.ensures.searches in
    can_leave (g.P.Placing.placement c.args.pages.now.0) (g.met.P.Placing.is_placement c.args.pages.now.0) c.requires.suits.0 c.args.directory
    c.requires.directory c.in-Ok.served searches.adds searches.outcome c.give-block.result c.give-block.ensures.gives c.requires.can

pub returns-in-Ok-clause-allocates : goal.returns-in-Ok-clause-allocates
returns-in-Ok-clause-allocates g c =
    allocates (g.P.Placing.placement c.args.pages.now.0) (g.met.P.Placing.is_placement c.args.pages.now.0) c.requires.suits.0 c.args.directory
    c.requires.directory c.in-Ok.served c.in-Ok.ensures.searches c.give-block.result c.give-block.ensures.gives c.leave.ensures.leaves

pub returns-in-Err-clause-allocates : goal.returns-in-Err-clause-allocates
returns-in-Err-clause-allocates g c = refuses (g.P.Placing.placement c.args.pages.now.0) c.args.directory c.in-Err.room c.in-Err.ensures.searches

pub returns-in-Ok-clause-rests : goal.returns-in-Ok-clause-rests
returns-in-Ok-clause-rests g c can = can_ask_again c.args.directory (Ok _) (returns-in-Ok-clause-allocates g c) can

pub returns-in-Err-clause-rests : goal.returns-in-Err-clause-rests
returns-in-Err-clause-rests g c can = can_ask_again c.args.directory (Err _) (returns-in-Err-clause-allocates g c) can

pub returns-in-Ok-clause-room : goal.returns-in-Ok-clause-room
returns-in-Ok-clause-room g c = room_left c.args.directory (Ok _) _ _ (returns-in-Ok-clause-allocates g c) (may_search c.requires.can)
    (λ v l s. g.met.D.Desk.spares c.args.desk.now v l s) (λ v l s. g.met.D.Desk.spares c.leave.new.desk v l s)

pub returns-in-Err-clause-room : goal.returns-in-Err-clause-room
returns-in-Err-clause-room g c = room_left c.args.directory (Err _) _ _ (returns-in-Err-clause-allocates g c) (may_search c.requires.can)
    (λ v l s. g.met.D.Desk.spares c.args.desk.now v l s) (λ v l s. g.met.D.Desk.spares c.find_page.new.desk v l s)
