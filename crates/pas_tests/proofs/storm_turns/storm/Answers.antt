use Rattle.std.proofs.Common.{arith}
use Rattle.pas_steps.proofs.Noting.{rest_length}
use Rattle.pas_tests.proofs.Stormed.{rests_first}
use Rattle.pas_tests.proofs.storm_turns.storm.Goals as goal

pub prepare-requires-clause-rest : goal.prepare-requires-clause-rest
prepare-requires-clause-rest c = rests_first c.in_ok-desk.ensures.opens c.in_ok-hands.ensures.locals c.in_ok-hands.hands.log

-- nothing was shown yet
pub prepare-requires-clause-all : goal.prepare-requires-clause-all
prepare-requires-clause-all c = omega (arith, rest_length c.in_ok-desk.ensures.opens.stood.pass.shown)
