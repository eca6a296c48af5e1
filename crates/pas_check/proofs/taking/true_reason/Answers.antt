use Rattle.std.proofs.Common.{arith}
use Rattle.pas_check.proofs.OneNext.{block_there, nothing_there}
use Rattle.pas_check.proofs.taking.true_reason.Goals as goal

pub returns-in-Some : goal.returns-in-Some
returns-in-Some c = search (arith, block_there, c.in-Some.ensures, c.reason_beside.ensures)

pub returns-in-None : goal.returns-in-None
returns-in-None c = search (arith, nothing_there, c.gives_at.ensures)
