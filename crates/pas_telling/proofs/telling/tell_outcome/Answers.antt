use Rattle.std.proofs.Common.{inr, refl}
use Rattle.pas_telling.proofs.telling.tell_outcome.Goals as goal

pub returns-in-Replayed : goal.returns-in-Replayed
returns-in-Replayed g c = rw c.in-Replayed.is (inr (refl, c.in-Err.ensures.failed, c.in-Err.ensures.front))
