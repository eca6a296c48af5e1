use Rattle.pas_segregated.proofs.GivenUp.{can_put_back, can_leave, stops_without, stops_with}
use Rattle.pas_segregated.proofs.stopping.stop_on.Goals as goal

pub put_and_return-requires-clause-can : goal.put_and_return-requires-clause-can
put_and_return-requires-clause-can g c = can_put_back c.args.directory c.args.slots c.covered-grains.result (λ x lt. c.covered-grains.ensures x) c.requires.can

pub leave-requires-clause-can : goal.leave-requires-clause-can
leave-requires-clause-can g c = can_leave c.args.directory c.args.slots c.covered-grains.result (λ x lt. c.covered-grains.ensures x) c.put_and_return.ensures.puts c.if-slots.true c.requires.can

pub returns-then-slots-clause-stops : goal.returns-then-slots-clause-stops
returns-then-slots-clause-stops g c = stops_with c.args.directory c.args.slots c.covered-grains.result (λ x lt. c.covered-grains.ensures x) c.put_and_return.ensures.puts c.if-slots.true c.leave.ensures.leaves

pub returns-else-slots-clause-stops : goal.returns-else-slots-clause-stops
returns-else-slots-clause-stops g c = stops_without c.args.directory c.args.slots c.covered-grains.result (λ x lt. c.covered-grains.ensures x) c.put_and_return.ensures.puts c.if-slots.false
