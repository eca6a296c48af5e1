use Rattle.std.proofs.Common.{ap}
use Rattle.pas_cache.proofs.Routes.{is_small}
use Rattle.pas_trials.proofs.Going.{works_on}
use Rattle.pas_trials.proofs.shared_storm.ask_once.Goals as goal

pub alloc-requires-clause-route : goal.alloc-requires-clause-route
alloc-requires-clause-route g c = is_small _ c.args.size 16 c.requires.size

pub returns-in-Ok-clause-working : goal.returns-in-Ok-clause-working
returns-in-Ok-clause-working g c = works_on c.args.room c.requires.working (ap g.D.Desk.forgotten c.alloc.ensures.home) c.alloc.ensures.allocates.calls

pub returns-in-Err-clause-working : goal.returns-in-Err-clause-working
returns-in-Err-clause-working g c = works_on c.args.room c.requires.working (ap g.D.Desk.forgotten c.alloc.ensures.home) c.alloc.ensures.allocates.calls
