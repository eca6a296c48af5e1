use Rattle.std.proofs.Common.{arith}
use Rattle.pas_machine.proofs.Verdicts.{ends_by_test}
use Rattle.pas_machine.proofs.machine.Machine.reaches_out.Goals as goal

pub returns-else-first-lt256 : goal.returns-else-first-lt256
returns-else-first-lt256 c = search (arith, ends_by_test)
