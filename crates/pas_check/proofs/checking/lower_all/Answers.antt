use Rattle.std.proofs.Common.{◌+◌, arith}
use Rattle.pas_trace.specs.Acts.{Lowers}
use Rattle.pas_check.{specs.Checks.threads_in, proofs.Actings.{nothing_taken, number_taken, numbers_taken, sized_on, stopped}}
use Rattle.pas_check.proofs.checking.lower_all.Goals as goal

pub loop-index-init : goal.loop-index-init
loop-index-init c = search (arith, nothing_taken)

pub lower-requires : goal.lower-requires
lower-requires c = record { within = c.loop-index.invariant.within }

pub returns-then-not-lower-clause-taken : goal.returns-then-not-lower-clause-taken
returns-then-not-lower-clause-taken c =
    stopped (number_taken Lowers c.loop-index.index (threads_in c.args.judge.now + c.args.keepers)
    (omega (arith, c.loop-index-test.true, c.threads_of-threads.ensures)) c.loop-index.invariant.far
    c.if-not-lower.ensures.taken)

pub loop-index-preserved : goal.loop-index-preserved
loop-index-preserved c = search (arith, sized_on, number_taken)

pub returns-clause-taken : goal.returns-clause-taken
returns-clause-taken c =
    numbers_taken Lowers c.loop-index.index (threads_in c.args.judge.now + c.args.keepers)
    (omega (arith, c.loop-index-test.false, c.threads_of-threads.ensures)) c.loop-index.invariant.far
