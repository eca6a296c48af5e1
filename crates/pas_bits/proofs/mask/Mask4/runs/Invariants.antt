use Rattle.std.proofs.Common.{◌-◌, ◌≤◌}
use Rattle.pas_bits.proofs.MovedMasks.{BeginRuns}
use Rattle.pas_bits.proofs.mask.Mask4.runs.Given as goal

-- runs of this length begin there
abbrev pub invariant-loop-length : goal.invariant-loop-length
invariant-loop-length l = record {
  some : 1 ≤ l.length;
  most : l.length ≤ l.grains;
  so_far : BeginRuns l.self l.length l.runs;
}

abbrev pub decreases-loop-length : goal.decreases-loop-length
decreases-loop-length l = l.grains - l.length
