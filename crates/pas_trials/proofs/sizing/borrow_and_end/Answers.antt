use Rattle.std.proofs.Common.{arith}
use Rattle.pas_trials.proofs.Borrowed.{admitted, budget_call, asked_left}
use Rattle.pas_cache.proofs.{Budget.may_allocate, Routes.is_small}
use Rattle.pas_trials.proofs.sizing.borrow_and_end.Goals as goal

pub alloc-block-requires-clause-route : goal.alloc-block-requires-clause-route
alloc-block-requires-clause-route g c = is_small _ 24 16 (omega arith)

pub alloc-block-requires-clause-admitted : goal.alloc-block-requires-clause-admitted
alloc-block-requires-clause-admitted g c = admitted _ 24 (omega arith) (g.met.D.Desk.valid c.args.desk.now)

pub alloc-block-requires-clause-can : goal.alloc-block-requires-clause-can
alloc-block-requires-clause-can g c = may_allocate 5 (omega arith) (budget_call c.requires.can)

pub end_by_rooms-requires : goal.end_by_rooms-requires
end_by_rooms-requires g c =
    let left = asked_left 3 (omega arith) c.alloc-block.ensures.allocates (budget_call c.requires.can) (g.met.D.Desk.spares c.args.desk.now)
    (g.met.D.Desk.spares c.alloc-block.new.desk) in
    record { can = record { view = left.view; whole = left.whole; stood = left.stood; met = tt }; room = omega (arith, left.met.room) }
