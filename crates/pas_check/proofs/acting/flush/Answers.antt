use Rattle.pas_check.proofs.Actings.{act_answered}
use Rattle.pas_check.proofs.acting.flush.Goals as goal

pub returns-clause-taken : goal.returns-clause-taken
returns-clause-taken c = λ f act flushes. act_answered c.requires.within (λ s stands. flushes s) (c.empty_log.ensures.taken f)
