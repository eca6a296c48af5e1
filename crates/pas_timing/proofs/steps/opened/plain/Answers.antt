use Rattle.std.proofs.Common.{[]}
use Rattle.pas_timing.proofs.steps.opened.plain.Goals as goal

pub returns-clause-can : goal.returns-clause-can
returns-clause-can c = record { view = []; whole = []; stood = c.in_ok-desk.ensures.fresh; met = tt }
