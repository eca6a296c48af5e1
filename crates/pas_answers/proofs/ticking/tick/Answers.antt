use Rattle.std.proofs.Common.{arith}
use Rattle.pas_answers.proofs.SingleActs.{tick_answered}
use Rattle.pas_answers.proofs.ticking.tick.Goals as goal

pub returns-clause-ticks : goal.returns-clause-ticks
returns-clause-ticks g c = search (arith, tick_answered)
