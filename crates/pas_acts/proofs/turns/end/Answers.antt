use Rattle.std.proofs.Common.{arith}
use Rattle.pas_acts.proofs.AtDesk.{may_answer, has_ended}
use Rattle.pas_acts.proofs.turns.end.Goals as goal

pub answer_stop-requires : goal.answer_stop-requires
answer_stop-requires g c = search (arith, may_answer)

pub returns-clause-ends : goal.returns-clause-ends
returns-clause-ends g c = λ f k later p at. (has_ended at c.answer_stop.ensures.answers).0

pub returns-clause-empty : goal.returns-clause-empty
returns-clause-empty g c = (has_ended c.requires.rests.4 c.answer_stop.ensures.answers).1
