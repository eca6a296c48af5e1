use Rattle.pas_segregated.proofs.WholeSlots.{can_put_back, takes_slots}
use Rattle.pas_segregated.proofs.taking.take_slots.Goals as goal

pub put_and_return-requires-clause-can : goal.put_and_return-requires-clause-can
put_and_return-requires-clause-can g c =
    can_put_back c.args.class c.args.page c.args.directory c.requires.class (record { 0 = c.slot_mask.result }) c.whole_slots-starts.result c.take-got.result c.rest_of-rest.result c.slot_mask.ensures c.take-got.ensures.takes c.whole_slots-starts.ensures c.rest_of-rest.ensures c.requires.can

pub returns-clause-takes : goal.returns-clause-takes
returns-clause-takes g c =
    takes_slots c.args.class c.args.page c.args.directory c.requires.class (record { 0 = c.slot_mask.result }) c.whole_slots-starts.result c.take-got.result c.rest_of-rest.result c.slot_mask.ensures c.take-got.ensures.takes c.whole_slots-starts.ensures c.rest_of-rest.ensures
    c.put_and_return.ensures.puts c.requires.can
