use Rattle.std.proofs.Common.{◌/◌, arith, subst}
use Rattle.pas_segregated.proofs.Starts.{covered_is}
use Rattle.pas_bits.proofs.MovedMasks.{AreNear}
use Rattle.pas_segregated.proofs.slots.covered.Goals as goal

pub returns : goal.returns
returns c =
    let class = c.args.class in let starts = c.args.starts.now in
    covered_is class starts c.spread.result c.requires.class (omega arith) c.requires.starts (subst (λ size. AreNear starts (size / 16) c.spread.result) c.class_size.ensures c.spread.ensures)
