use Rattle.std.proofs.Common.{arith}
use Rattle.pas_check.proofs.Actings.{log_amiss, log_emptied}
use Rattle.pas_check.proofs.acting.empty_log.Goals as goal

pub returns-then-not-take_entries-clause-taken : goal.returns-then-not-take_entries-clause-taken
returns-then-not-take_entries-clause-taken c = search (arith, log_amiss, c.log-log.ensures, c.if-not-take_entries.ensures.taken)

pub returns-clause-taken : goal.returns-clause-taken
returns-clause-taken c = search (arith, log_emptied, c.if-not-take_entries.ensures.taken)
