use Rattle.std.proofs.Common.{◌≡◌, ◌≢◌, ◌+◌, ◌/◌, ◌^◌, ◌≤◌}
use Rattle.pas_scan.proofs.looked.highest_bit.Given as goal

-- from `low` on something is left of the word, and nothing `span` bits further
abbrev pub invariant-loop-span : goal.invariant-loop-span
invariant-loop-span l = record {
  some : 1 ≤ l.span;
  within : l.low + l.span ≤ 64;
  left : l.word / 2 ^ l.low ≢ 0;
  none : l.word / 2 ^ (l.low + l.span) ≡ 0;
}

abbrev pub decreases-loop-span : goal.decreases-loop-span
decreases-loop-span l = l.span
