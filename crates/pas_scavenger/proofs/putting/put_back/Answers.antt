use Rattle.pas_scavenger.proofs.Examinations.{may_return, can_leave, puts_back}
use Rattle.pas_scavenger.proofs.putting.put_back.Goals as goal

pub returned-requires-clause-can : goal.returned-requires-clause-can
returned-requires-clause-can g c = may_return c.args.page c.args.directory c.args.grains.now c.put.ensures.puts c.requires.can

pub leave-requires-clause-can : goal.leave-requires-clause-can
leave-requires-clause-can g c = can_leave c.args.page c.args.directory c.args.grains.now c.put.ensures.puts c.returned.ensures.returns c.requires.can

pub returns-clause-puts : goal.returns-clause-puts
returns-clause-puts g c = puts_back c.args.page c.args.directory c.args.grains.now c.put.ensures.puts c.returned.ensures.returns c.leave.ensures.leaves
