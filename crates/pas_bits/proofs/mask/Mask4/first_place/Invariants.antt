use Rattle.std.proofs.Common.{◌-◌, ◌≤◌}
use Rattle.pas_bits.proofs.Masks.{NoPlaceBelow}
use Rattle.pas_bits.proofs.mask.Mask4.first_place.Given as goal

-- no place begins below `from`
abbrev pub invariant-loop-set : goal.invariant-loop-set
invariant-loop-set l = (l.from ≤ 256) × NoPlaceBelow l.self l.grains l.align l.end l.from

abbrev pub decreases-loop-set : goal.decreases-loop-set
decreases-loop-set l = 257 - l.from
