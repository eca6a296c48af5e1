use Rattle.pas_guard.proofs.Keepers.{begins_up, stays_up, up_in_next, booked, left_alone}
use Rattle.pas_guard.proofs.laws.guards_are_up_until_lowered.Goals as goal

pub returns-clause-begins : goal.returns-clause-begins
returns-clause-begins c = begins_up

pub returns-clause-stays : goal.returns-clause-stays
returns-clause-stays c = stays_up

pub returns-clause-next : goal.returns-clause-next
returns-clause-next c = up_in_next

pub returns-clause-booked : goal.returns-clause-booked
returns-clause-booked c = booked

pub returns-clause-kept : goal.returns-clause-kept
returns-clause-kept c = left_alone
