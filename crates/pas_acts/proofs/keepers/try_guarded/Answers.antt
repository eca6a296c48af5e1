use Rattle.std.proofs.Common.{arith}
use Rattle.pas_acts.proofs.AtDesk.{may_try, has_tried}
use Rattle.pas_acts.proofs.keepers.try_guarded.Goals as goal

pub try_guarded-requires-clause-can : goal.try_guarded-requires-clause-can
try_guarded-requires-clause-can g c = search (arith, may_try)

pub returns-clause-tries : goal.returns-clause-tries
returns-clause-tries g c = search (arith, has_tried)
