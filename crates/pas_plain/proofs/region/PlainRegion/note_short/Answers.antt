use Rattle.std.proofs.Common.{arith, inl, inr}
use Rattle.pas_plain.proofs.ShortOnes.{noted_short, none_there}
use Rattle.pas_plain.proofs.region.PlainRegion.note_short.Goals as goal

pub invariant_of-self : goal.invariant_of-self
invariant_of-self c = let r = c.args.self.now in record {
  valid = r.valid;
  pages = r.pages;
  heaps = r.heaps;
  short_are = λ grains align p note. elim (c.note.ensures grains align p note) [
    | inl old ↦ r.short_are grains align p old
    | inr new ↦
        search (arith, noted_short, none_there)
  ];
}
