use Rattle.std.proofs.Common.{◌<◌, ◌↔◌, ℕ, IsTrue}
use Rattle.pas_bits.specs.Masks.{is_set}
use Rattle.pas_bitfit.specs.Ends.{IsEnd}
use Rattle.pas_bitfit.proofs.ending.end_bits.Given as goal

-- the ends of the blocks that begin before this grain
abbrev pub invariant-loop-grain : goal.invariant-loop-grain
invariant-loop-grain l = record {
  ends : (x : ℕ) → x < 256 → IsTrue (is_set l.ends x) ↔ IsEnd l.state l.page l.grain x;
}
