use Rattle.pas_check.proofs.OneNext.{one_event, end_is, reject_is}
use Rattle.pas_check.proofs.laws.entries_have_one_event.Goals as goal

pub returns-clause-one : goal.returns-clause-one
returns-clause-one c = one_event

pub returns-clause-end : goal.returns-clause-end
returns-clause-end c = end_is

pub returns-clause-reject : goal.returns-clause-reject
returns-clause-reject c = reject_is
