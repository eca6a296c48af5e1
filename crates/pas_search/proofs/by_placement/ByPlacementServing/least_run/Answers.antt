use Rattle.pas_search.proofs.PassedBy.{passes_where}
use Rattle.pas_search.proofs.by_placement.ByPlacementServing.least_run.Goals as goal

pub returns : goal.returns
returns g c = let s = c.args.self.now.0 in passes_where (g.P.Placing.placement s) (g.met.P.Placing.is_placement s) c.requires.0 c.args._directory c.requires.1 c.least_run.result c.least_run.ensures
