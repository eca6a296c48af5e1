use Rattle.std.proofs.Common.{◌-◌, ◌≤◌}
use Rattle.pas_bits.proofs.MovedMasks.{AreNear}
use Rattle.pas_bits.proofs.mask.Mask4.spread.Given as goal

-- the bits are spread over this length
abbrev pub invariant-loop-length : goal.invariant-loop-length
invariant-loop-length l = record {
  some : 1 ≤ l.length;
  most : l.length ≤ l.grains;
  so_far : AreNear l.self l.length l.spread;
}

abbrev pub decreases-loop-length : goal.decreases-loop-length
decreases-loop-length l = l.grains - l.length
