use Rattle.std.proofs.Common.{◌-◌, ◌≤◌}
use Rattle.pas_bits.specs.Masks.{is_set}
use Rattle.pas_bestfit.proofs.Searched.{SoFar}
use Rattle.pas_bestfit.proofs.best.BestPlacing.place.Given as goal

-- the best of the runs that begin below `from`
abbrev pub invariant-loop-run : goal.invariant-loop-run
invariant-loop-run l = (l.from ≤ 256) × SoFar (is_set l.free) l.self.grains l.from l.best

abbrev pub decreases-loop-run : goal.decreases-loop-run
decreases-loop-run l = 256 - l.from
