use Rattle.std.proofs.Common.{arith}
use Rattle.pas_acts.proofs.AtDesk.{has_read}
use Rattle.pas_acts.proofs.at_desk.read_epoch.Goals as goal

-- by cases
pub look-requires-clause-can : goal.look-requires-clause-can
look-requires-clause-can g c = search arith

pub returns-clause-reads : goal.returns-clause-reads
returns-clause-reads g c = λ f out later p at. has_read c.look.result at c.look.ensures.makes
