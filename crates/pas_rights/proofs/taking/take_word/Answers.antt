use Rattle.std.proofs.Common.{arith, eq-eqb, ne_eqb}
use Rattle.pas_steps.proofs.Adding.{adds_none, adds_step}
use Rattle.pas_rights.proofs.taking.take_word.Goals as goal

pub returns-then-mask-eq0-clause-takes : goal.returns-then-mask-eq0-clause-takes
returns-then-mask-eq0-clause-takes g c = search (arith, eq-eqb, adds_none)

pub returns-clause-takes : goal.returns-clause-takes
returns-clause-takes g c = search (arith, ne_eqb, adds_step, adds_none)
