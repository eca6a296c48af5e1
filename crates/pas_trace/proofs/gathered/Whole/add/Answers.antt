use Rattle.std.proofs.Common.{arith}
use Rattle.pas_trace.proofs.Gathering.{add_last-end}
use Rattle.pas_trace.proofs.gathered.Whole.add.Goals as goal

pub returns : goal.returns
returns c = search (arith, add_last-end, c.push_reserved.ensures.items, c.reserve.ensures.items)
