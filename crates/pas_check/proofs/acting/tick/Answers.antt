use Rattle.std.proofs.Common.{arith}
use Rattle.pas_check.proofs.Actings.{ticked}
use Rattle.pas_check.proofs.acting.tick.Goals as goal

pub returns-clause-taken : goal.returns-clause-taken
returns-clause-taken c = λ f. ticked c.requires.within c.max-judge.result c.max-judge.ensures (omega arith) c.take_record.ensures.led
