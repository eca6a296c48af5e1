use Rattle.std.proofs.Common.{◌==◌}
use Rattle.pas_replay.proofs.ByActors.{set_stands}
use Rattle.pas_replay.proofs.seats.keep.Goals as goal

pub returns-in-Request-clause-stand : goal.returns-in-Request-clause-stand
returns-in-Request-clause-stand c = λ f all came n. set_stands f (c.in-Request.name == n) c.args.came _ _ (c.set.ensures.names n) came (all n)

pub returns-in-Remake-clause-stand : goal.returns-in-Remake-clause-stand
returns-in-Remake-clause-stand c = λ f all came n. set_stands f (c.in-Remake.name == n) c.args.came _ _ (c.set-in-Remake.ensures.names n) came (all n)

pub returns-in-Guarded-clause-stand : goal.returns-in-Guarded-clause-stand
returns-in-Guarded-clause-stand c = λ f all came n. set_stands f (c.in-Guarded.name == n) c.args.came _ _ (c.set-in-Guarded.ensures.names n) came (all n)
