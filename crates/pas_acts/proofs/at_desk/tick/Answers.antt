use Rattle.std.proofs.Common.{arith}
use Rattle.pas_acts.proofs.AtDesk.{can_scavenge, has_ticked}
use Rattle.pas_acts.proofs.at_desk.tick.Goals as goal

pub tick-requires-clause-can : goal.tick-requires-clause-can
tick-requires-clause-can g c = can_scavenge c.requires.stands.3

pub tick-requires-clause-record : goal.tick-requires-clause-record
tick-requires-clause-record g c = omega (arith, c.requires.stands.3.spare)

pub returns-clause-ticks : goal.returns-clause-ticks
returns-clause-ticks g c = λ f later p at. has_ticked c.args.epoch at c.tick.ensures.ticks c.tick.ensures.room
