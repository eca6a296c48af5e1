use Rattle.pas_partial.proofs.Refilled.{refills_ok}
use Rattle.pas_partial.proofs.refilling.refill.Goals as goal

pub returns-in-Ok-clause-refills : goal.returns-in-Ok-clause-refills
returns-in-Ok-clause-refills g c =
    refills_ok c.args.heap c.args.class c.requires.class c.in-Ok.served c.in-Ok.ensures.searches c.run-row.result c.whole_slots-starts.result
    c.run-row.ensures c.whole_slots-starts.ensures c.leave.ensures.leaves
