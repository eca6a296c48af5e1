use Rattle.pas_trials.proofs.Unfinished.{looking_owes, empty_unhinted}
use Rattle.pas_trials.proofs.laws.an_empty_page_is_hinted.Goals as goal

pub returns-clause-owed : goal.returns-clause-owed
returns-clause-owed c = looking_owes

pub returns-clause-lost : goal.returns-clause-lost
returns-clause-lost c = empty_unhinted
