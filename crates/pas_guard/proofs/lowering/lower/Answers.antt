use Rattle.pas_guard.proofs.Guarded.{can_low, can_high, lowers}
use Rattle.pas_guard.proofs.lowering.lower.Goals as goal

pub put_and_return-requires-clause-can : goal.put_and_return-requires-clause-can
put_and_return-requires-clause-can g c = can_low (g.D.Desk.standing c.args.desk.now).seat.profile c.args.guard c.requires.can

pub put_and_return-requires-2-clause-can : goal.put_and_return-requires-2-clause-can
put_and_return-requires-2-clause-can g c = can_high (g.D.Desk.standing c.args.desk.now).seat.profile c.args.guard c.put_and_return.ensures.puts c.requires.can

pub returns-clause-lowers : goal.returns-clause-lowers
returns-clause-lowers g c = lowers c.args.guard c.put_and_return.ensures.puts c.put_and_return-2.ensures.puts
