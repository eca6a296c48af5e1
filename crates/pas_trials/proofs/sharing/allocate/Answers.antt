use Rattle.std.proofs.Common.{◌++◌}
use Rattle.pas_trials.proofs.sharing.allocate.Goals as goal

pub returns : goal.returns
returns g c = let r = c.alloc-block.ensures.allocates.0 in record { steps = record { steps = r.after ++ r.searched; adds = r.adds } }
