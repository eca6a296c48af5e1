use Rattle.pas_guard.proofs.Guarded.{guard_begins}
use Rattle.pas_guard.proofs.laws.guards_begin.Goals as goal

pub returns : goal.returns
returns c = guard_begins
