use Rattle.std.proofs.Common.{◌*◌, ◌-◌, ◌≤◌, length}
use Rattle.pas_bits.specs.Rows.{IsClearBelow}
use Rattle.pas_bits.proofs.row_search.clear_groups.Given as goal

-- no bit of the groups so far is set
abbrev pub invariant-loop-start : goal.invariant-loop-start
invariant-loop-start l = (l.start ≤ length l.words) × IsClearBelow l.words (64 * l.start)

abbrev pub decreases-loop-start : goal.decreases-loop-start
decreases-loop-start l = length l.words - l.start
