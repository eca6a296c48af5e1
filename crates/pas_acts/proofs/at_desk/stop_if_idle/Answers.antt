use Rattle.std.proofs.Common.{arith, refl}
use Rattle.pas_acts.proofs.{Common.false≢true, AtDesk.{may_answer, was_stopped, has_stayed}}
use Rattle.pas_acts.proofs.at_desk.stop_if_idle.Goals as goal

pub answer_stop-requires : goal.answer_stop-requires
answer_stop-requires g c = search (arith, may_answer)

pub returns-then-is_idle_for-clause-stops : goal.returns-then-is_idle_for-clause-stops
returns-then-is_idle_for-clause-stops g c = λ f k later p at read. was_stopped at c.answer_stop.ensures.answers read (c.if-is_idle_for.ensures.0 refl)

pub returns-else-is_idle_for-clause-stops : goal.returns-else-is_idle_for-clause-stops
returns-else-is_idle_for-clause-stops g c = λ f k later p at read. has_stayed at read (λ is. false≢true (c.if-is_idle_for.ensures.1 is))
