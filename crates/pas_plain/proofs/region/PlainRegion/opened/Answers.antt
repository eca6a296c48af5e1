use Rattle.std.proofs.Common.{arith}
use Rattle.pas_plain.proofs.region.PlainRegion.opened.Goals as goal

pub invariant_of-result : goal.invariant_of-result
invariant_of-result c = record {
  valid = c.requires;
  pages = grind arith;
  heaps = grind arith;
  short_are = λ g a p note. absurd (c.in_ok-short.ensures g a p note);
}
