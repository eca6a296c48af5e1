use Rattle.pas_guard.proofs.Guarded.{stands_on, untouched_on}
use Rattle.pas_guard.proofs.laws.guards_stand.Goals as goal

pub returns-clause-stands : goal.returns-clause-stands
returns-clause-stands c = stands_on

pub returns-clause-untouched : goal.returns-clause-untouched
returns-clause-untouched c = untouched_on
