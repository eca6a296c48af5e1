use Rattle.std.proofs.Common.{arith, refl}
use Rattle.pas_scan.proofs.Reading.{marked_bits}
use Rattle.pas_scan.proofs.looked.Looked.pass_by.Goals as goal

pub returns-clause-unfit : goal.returns-clause-unfit
returns-clause-unfit c = λ p. marked_bits c.args.self.now.unfit c.args.block c.args.pages p (omega (arith, c.requires.block))

pub returns-clause-next : goal.returns-clause-next
returns-clause-next c = record { bit = c.highest_bit.result; highest = c.highest_bit.ensures; behind = refl }
