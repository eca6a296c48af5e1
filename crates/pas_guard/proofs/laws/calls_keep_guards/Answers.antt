use Rattle.pas_guard.proofs.Guarded.{own_keep}
use Rattle.pas_guard.proofs.laws.calls_keep_guards.Goals as goal

pub returns : goal.returns
returns c = own_keep
