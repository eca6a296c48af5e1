use Rattle.std.proofs.Common.{arith}
use Rattle.pas_rights.proofs.Gives.{block_is, can_give, room_to_give, gives_run}
use Rattle.pas_rights.proofs.giving.give.Goals as goal

pub give-requires-clause-can : goal.give-requires-clause-can
give-requires-clause-can g c = let a = c.args in let r = c.requires in
    can_give a.heap a.page a.first a.grains _ (g.D.Desk.spare_of a.desk.now) r.page r.heap r.some r.within (g.met.D.Desk.spares a.desk.now) (g.met.D.Desk.limited a.desk.now) (omega arith) c.look.ensures.makes
    _ (block_is a.heap a.page a.first a.grains c.look.result c.read_life-turn.result.0 c.read_life-turn.ensures.turn) r.can

pub give-requires-clause-room : goal.give-requires-clause-room
give-requires-clause-room g c = search (arith, room_to_give)

pub returns-clause-gives : goal.returns-clause-gives
returns-clause-gives g c = let a = c.args in let r = c.requires in
    gives_run a.heap a.page a.first a.grains _ (g.D.Desk.spare_of a.desk.now) r.page r.heap r.some r.within (g.met.D.Desk.spares a.desk.now) (g.met.D.Desk.limited a.desk.now) (omega arith) c.look.ensures.makes
    _ _ (block_is a.heap a.page a.first a.grains c.look.result c.read_life-turn.result.0 c.read_life-turn.ensures.turn) c.give.ensures.makes
