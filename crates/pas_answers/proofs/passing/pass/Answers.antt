use Rattle.std.proofs.Common.{arith}
use Rattle.pas_answers.proofs.SingleActs.{pass_answered}
use Rattle.pas_answers.proofs.passing.pass.Goals as goal

pub returns-clause-passes : goal.returns-clause-passes
returns-clause-passes g c = search (arith, pass_answered)
