use Rattle.pas_rights.proofs.Puts.{can_leave, puts_and_leaves}
use Rattle.pas_rights.proofs.putting.put_and_leave.Goals as goal

pub leave-requires-clause-can : goal.leave-requires-clause-can
leave-requires-clause-can g c = can_leave c.args.page c.args.directory c.args.mask.now c.put.ensures.puts c.requires.can

pub returns-clause-puts : goal.returns-clause-puts
returns-clause-puts g c = puts_and_leaves c.args.page c.args.directory c.args.mask.now c.put.ensures.puts c.leave.ensures.leaves
