use Rattle.std.proofs.Common.{arith, refl}
use Rattle.pas_check.proofs.Stretches.{outcomes_begin, outcomes_lack, outcomes_more, outcomes_over}
use Rattle.pas_check.proofs.examining.take_outcomes.Goals as goal

pub lines-init : goal.lines-init
lines-init c = record { profile = refl; within = c.requires.within; goes = outcomes_begin c.requires.within }

pub returns-in_default-clause-taken : goal.returns-in_default-clause-taken
returns-in_default-clause-taken c = outcomes_lack c.lines.invariant.goes c.lines.invariant.within c.in_default.ensures.none

pub returns-in-None-clause-taken : goal.returns-in-None-clause-taken
returns-in-None-clause-taken c =
    outcomes_over c.lines.invariant.goes c.requires.valid c.lines.invariant.profile c.lines.invariant.within c.in-Some.ensures.some c.read.ensures
    c.take_outcome.new.machine c.in-None.ensures.taken

pub lines-preserved : goal.lines-preserved
lines-preserved c = search (arith, outcomes_more)
