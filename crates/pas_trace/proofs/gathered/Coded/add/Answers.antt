use Rattle.std.proofs.Common.{arith}
use Rattle.pas_trace.proofs.Gathering.{add_last-end}
use Rattle.pas_trace.proofs.gathered.Coded.add.Goals as goal

pub returns : goal.returns
returns c = search (arith, add_last-end, c.add.ensures)
