use Rattle.std.proofs.Common.{◌-◌, ◌<◌, sym, subst, arith}
use Rattle.pas_search.proofs.ForBackEnds.{room_after}
use Rattle.pas_large.proofs.{Gives.{can_give, back_events, can_leave_run, gives_run}, Left.backs_few}
use Rattle.pas_large.proofs.giving.give_run.Goals as goal

pub give-block-requires-clause-heap : goal.give-block-requires-clause-heap
give-block-requires-clause-heap g c = subst (λ s. c.args.directory.heap < s.profile.heaps) (sym c.back_run.ensures.backs.calls.adds.seat_is) c.requires.directory.heap

pub give-block-requires-clause-within : goal.give-block-requires-clause-within
give-block-requires-clause-within g c = search arith

pub give-block-requires-clause-can : goal.give-block-requires-clause-can
give-block-requires-clause-can g c = can_give c.args.directory c.args.first c.args.pages c.back_run.ensures.backs c.requires.directory c.requires.can

pub give-block-requires-clause-room : goal.give-block-requires-clause-room
give-block-requires-clause-room g c = let backs = c.back_run.ensures.backs in let few = backs_few _ _ backs.steps backs.order in let room = c.requires.room in
    room_after {spare = g.D.Desk.spare_of c.args.desk.now} {spare' = g.D.Desk.spare_of _} 1 _ backs.calls.adds c.requires.can
    (λ k v. back_events k v backs.steps) (g.met.D.Desk.spares c.args.desk.now) (g.met.D.Desk.spares _) (omega (arith, few, room))

pub leave_run-requires-clause-can : goal.leave_run-requires-clause-can
leave_run-requires-clause-can g c = can_leave_run _ _ c.args.pages c.back_run.ensures.backs c.requires.directory _ c.give-block.ensures.gives c.requires.can

pub returns-clause-gives : goal.returns-clause-gives
returns-clause-gives g c = gives_run _ _ c.args.pages c.back_run.ensures.backs c.requires.directory _ c.give-block.ensures.gives c.leave_run.ensures.leaves
