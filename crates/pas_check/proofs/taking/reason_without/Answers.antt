use Rattle.std.proofs.Common.{arith}
use Rattle.pas_check.proofs.OneNext.{gone_ended, never_there}
use Rattle.pas_check.proofs.taking.reason_without.Goals as goal

pub returns-then-entry-gives : goal.returns-then-entry-gives
returns-then-entry-gives c = search (arith, gone_ended, c.if-entry-gives.true)

pub returns-else-entry-gives : goal.returns-else-entry-gives
returns-else-entry-gives c = search (arith, never_there, c.if-entry-gives.false)
