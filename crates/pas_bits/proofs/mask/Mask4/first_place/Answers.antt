use Rattle.std.proofs.Common.{◌*◌, arith}
use Rattle.pas_bits.proofs.Masks.{rounded, none_to_place, none_within, none_past}
use Rattle.pas_bits.proofs.mask.Mask4.first_place.Goals as goal

-- no place below the next multiple, which is too near the end
pub returns-then-place-grains : goal.returns-then-place-grains
returns-then-place-grains c =
    let up = rounded c.in-Some.set c.args.align c.div_ceil.result c.requires.align.0 c.div_ceil.ensures in
    none_within c.args.self.now c.args.grains c.args.align c.args.end (c.div_ceil.result * c.args.align) (omega arith)
    (none_to_place c.args.self.now c.args.grains c.args.align c.args.end c.loop-set.from c.in-Some.set (c.div_ceil.result * c.args.align) c.requires.grains.0 up.2 up.1 c.loop-set.invariant.1 c.in-Some.ensures)

pub returns-then-place-grains-2 : goal.returns-then-place-grains-2
returns-then-place-grains-2 c =
    let up = rounded c.in-Some.set c.args.align c.div_ceil.result c.requires.align.0 c.div_ceil.ensures in
    search (arith, none_to_place c.args.self.now c.args.grains c.args.align c.args.end c.loop-set.from c.in-Some.set (c.div_ceil.result * c.args.align) c.requires.grains.0 up.2 up.1 c.loop-set.invariant.1 c.in-Some.ensures)

pub loop-set-preserved : goal.loop-set-preserved
loop-set-preserved c =
    let up = rounded c.in-Some.set c.args.align c.div_ceil.result c.requires.align.0 c.div_ceil.ensures in (
      omega arith,
      none_past c.args.self.now c.args.grains c.args.align c.args.end (c.div_ceil.result * c.args.align) c.run_end-run_end.result c.requires.end (omega arith) (omega arith)
          (none_to_place c.args.self.now c.args.grains c.args.align c.args.end c.loop-set.from c.in-Some.set
          (c.div_ceil.result * c.args.align) c.requires.grains.0 up.2 up.1 c.loop-set.invariant.1 c.in-Some.ensures)
          c.run_end-run_end.ensures,
    )
