use Rattle.std.proofs.Common.{refl, add-one, arith}
use Rattle.pas_rights.{specs.Words.ones, proofs.Puts.takes_right}
use Rattle.pas_steps.proofs.Adding.{adds_none, adds_step, can_step}
use Rattle.pas_scavenger.proofs.taking.take_grains.Goals as goal

pub loop-word-init : goal.loop-word-init
loop-word-init g c = record { adds = adds_none; home = refl }

pub take-value-requires-clause-can : goal.take-value-requires-clause-can
take-value-requires-clause-can g c = can_step c.loop-word.invariant.adds c.requires.can
    ((c.requires.page.0, c.requires.page.1), c.loop-word-test.true, omega arith) (λ v l stood right. takes_right _ ones ones c.loop-word.word v right)

pub loop-word-preserved : goal.loop-word-preserved
loop-word-preserved g c = search (arith, add-one, adds_step, takes_right)

pub returns-then-value-clause-takes : goal.returns-then-value-clause-takes
returns-then-value-clause-takes g c = search (arith, adds_step, takes_right)

pub returns-clause-takes : goal.returns-clause-takes
returns-clause-takes g c = search arith
