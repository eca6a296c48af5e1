use Rattle.pas_search.proofs.Sessions.{can_ask, bitfit_of_first}
use Rattle.pas_bestfit_run.proofs.churning.request.Goals as goal

pub alloc-requires-clause-directory : goal.alloc-requires-clause-directory
alloc-requires-clause-directory g c = bitfit_of_first _ (g.met.D.Desk.valid c.args.desk.now)

pub alloc-requires-clause-can : goal.alloc-requires-clause-can
alloc-requires-clause-can g c = can_ask _ c.requires.room c.requires.can
