use Rattle.std.proofs.Common.{refl, add-one, arith}
use Rattle.pas_steps.proofs.Adding.{adds_none, adds_step, can_step}
use Rattle.pas_rights.proofs.reading.first_used.Goals as goal

pub loop-word-init : goal.loop-word-init
loop-word-init g c = record { adds = adds_none; home = refl }

pub look-value-requires-clause-can : goal.look-value-requires-clause-can
look-value-requires-clause-can g c = search (arith, can_step)

pub loop-word-preserved : goal.loop-word-preserved
loop-word-preserved g c = search (arith, add-one, adds_step)

pub returns-then-value-clause-reads : goal.returns-then-value-clause-reads
returns-then-value-clause-reads g c = search (arith, adds_step)

-- all four words were read
pub returns-clause-reads : goal.returns-clause-reads
returns-clause-reads g c = search arith
