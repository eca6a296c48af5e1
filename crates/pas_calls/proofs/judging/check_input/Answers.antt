use Rattle.std.proofs.Common.{arith}
use Rattle.pas_calls.proofs.Endings.{tells_judgement}
use Rattle.pas_calls.proofs.judging.check_input.Goals as goal

pub returns-in-Ok-clause-ends : goal.returns-in-Ok-clause-ends
returns-in-Ok-clause-ends g c =
    search (arith, tells_judgement)
