use Rattle.std.proofs.Common.{arith}
use Rattle.pas_check.proofs.Leads.{just_led}
use Rattle.pas_check.proofs.following.take_record.Goals as goal

pub returns-clause-led : goal.returns-clause-led
returns-clause-led c = search (arith, just_led, c.is_next.ensures.taken)
