use Rattle.std.proofs.Common.{[], ◌∷◌, refl}
use Rattle.pas_steps.specs.Kinds.{Ticking}
use Rattle.pas_plain.proofs.Desks.{acts_idly}
use Rattle.pas_tests.proofs.storms.TickerIntruder.act.Goals as goal

pub returns-then-number-self-clause-acts : goal.returns-then-number-self-clause-acts
returns-then-number-self-clause-acts g c = acts_idly (Ticking ∷ []) refl refl (λ v. tt) c.tick.ensures.makes
