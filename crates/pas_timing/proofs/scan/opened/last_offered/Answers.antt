use Rattle.std.proofs.Common.{[]}
use Rattle.pas_steps.proofs.Called.{next_call}
use Rattle.pas_timing.proofs.scan.opened.last_offered.Goals as goal

pub visit-requires-clause-can : goal.visit-requires-clause-can
visit-requires-clause-can c = record { view = []; whole = []; stood = c.in_ok-desk.ensures.fresh; met = tt }

pub returns-clause-can : goal.returns-clause-can
returns-clause-can c = next_call c.visit.ensures.brings.calls (record { view = []; whole = []; stood = c.in_ok-desk.ensures.fresh; met = tt }) (λ v met b. tt)
