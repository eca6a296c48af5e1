use Rattle.std.{proofs.Common.{◌≡◌, ◌-◌, ◌≤◌, length}, specs.Simd.Lanes.sum_l}
use Rattle.pas_bits.proofs.Rows.{count_before}
use Rattle.pas_bits.proofs.row_count.count_ones.Given as goal

-- the lanes have the set bits of the groups so far
abbrev pub invariant-loop-start : goal.invariant-loop-start
invariant-loop-start l = (l.start ≤ length l.words) × (length l.lanes ≡ 8) × (sum_l l.lanes ≡ count_before l.words l.start)

abbrev pub decreases-loop-start : goal.decreases-loop-start
decreases-loop-start l = length l.words - l.start

-- the number has the set bits of the words so far
abbrev pub invariant-loop-word : goal.invariant-loop-word
invariant-loop-word l = l.ones ≡ count_before l.words l.word
