use Rattle.std.proofs.Common.{◌*◌, ◌-◌, ◌≤◌, length}
use Rattle.pas_bits.specs.Rows.{IsWithinBelow}
use Rattle.pas_bits.proofs.row_compare.groups_within.Given as goal

-- of the groups so far each number of the first row is one of the second
abbrev pub invariant-loop-start : goal.invariant-loop-start
invariant-loop-start l = (l.start ≤ length l.a) × IsWithinBelow l.a l.b (64 * l.start)

abbrev pub decreases-loop-start : goal.decreases-loop-start
decreases-loop-start l = length l.a - l.start
