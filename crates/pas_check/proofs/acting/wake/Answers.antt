use Rattle.std.proofs.Common.{refl}
use Rattle.pas_check.proofs.Actings.{woken}
use Rattle.pas_check.proofs.acting.wake.Goals as goal

pub returns-clause-taken : goal.returns-clause-taken
returns-clause-taken c = λ f text at within. woken f text c.args.judge.now _ at within c.args.k c.requires refl refl refl refl refl refl
