use Rattle.pas_trials.proofs.Unfinished.{parking_owes, parked_with_room}
use Rattle.pas_trials.proofs.laws.a_parked_page_is_looked_at_again.Goals as goal

pub returns-clause-owed : goal.returns-clause-owed
returns-clause-owed c = parking_owes

pub returns-clause-lost : goal.returns-clause-lost
returns-clause-lost c = parked_with_room
