use Rattle.std.proofs.Common.{[], arith}
use Rattle.pas_steps.proofs.{Nothing.nothing_yet, Noting.rest_length}
use Rattle.pas_bestfit_run.proofs.main.Goals as goal

pub churn-requires-clause-can : goal.churn-requires-clause-can
churn-requires-clause-can c = record { view = []; whole = []; stood = c.in-Ok.ensures.fresh; met = nothing_yet }

pub churn-requires-clause-room : goal.churn-requires-clause-room
churn-requires-clause-room c = let none = rest_length c.in-Ok.ensures.fresh.pass.shown in omega (arith, none, c.in-Ok.ensures.room)
