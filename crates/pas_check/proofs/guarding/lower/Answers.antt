use Rattle.std.proofs.Common.{refl}
use Rattle.pas_check.proofs.Actings.{act_answered}
use Rattle.pas_check.proofs.guarding.lower.Goals as goal

pub returns-clause-taken : goal.returns-clause-taken
returns-clause-taken c = λ f. act_answered c.requires.within (λ s stands. refl) (c.sweep.ensures.taken f)
