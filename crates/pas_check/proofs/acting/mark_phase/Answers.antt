use Rattle.std.proofs.Common.{refl}
use Rattle.pas_check.proofs.Actings.{act_said}
use Rattle.pas_check.proofs.acting.mark_phase.Goals as goal

pub returns-clause-taken : goal.returns-clause-taken
returns-clause-taken c = λ f. act_said c.requires.within (λ s. s) (λ s stands. refl) (λ s stands. stands) c.take_record.ensures.led
