use Rattle.pas_segregated.proofs.GivenUp.{refills_ok, refills_err}
use Rattle.pas_segregated.proofs.refilling.refill.Goals as goal

pub returns-in-Ok-clause-refills : goal.returns-in-Ok-clause-refills
returns-in-Ok-clause-refills g c = refills_ok c.args.heap c.args.class c.in-Ok.served c.in-Ok.ensures.searches

pub returns-in-Err-clause-refills : goal.returns-in-Err-clause-refills
returns-in-Err-clause-refills g c = refills_err c.args.heap c.args.class c.in-Err.room c.in-Err.ensures.searches
