use Rattle.pas_check.proofs.OneNext.{one_next, one_takes}
use Rattle.pas_check.proofs.laws.lines_lead_on.Goals as goal

pub returns-clause-due : goal.returns-clause-due
returns-clause-due c = one_next

pub returns-clause-next : goal.returns-clause-next
returns-clause-next c = one_takes
