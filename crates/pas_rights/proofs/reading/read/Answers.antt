use Rattle.std.proofs.Common.{arith}
use Rattle.pas_steps.proofs.Adding.{adds_none, adds_step}
use Rattle.pas_rights.proofs.reading.read.Goals as goal

pub returns-clause-reads : goal.returns-clause-reads
returns-clause-reads g c =
    search (arith, adds_step, adds_none)
