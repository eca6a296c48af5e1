use Rattle.pas_guard.proofs.Raises.{kept_steady}
use Rattle.pas_guard.proofs.laws.sweeps_keep_guards.Goals as goal

pub returns : goal.returns
returns c = kept_steady
