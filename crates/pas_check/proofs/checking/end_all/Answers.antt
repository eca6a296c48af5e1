use Rattle.std.proofs.Common.{◌+◌, refl, arith}
use Rattle.pas_trace.specs.Acts.{Ends}
use Rattle.pas_check.{specs.Checks.threads_in, proofs.Actings.{nothing_taken, number_taken, numbers_taken, sized_on, stopped}}
use Rattle.pas_check.proofs.checking.end_all.Goals as goal

pub loop-index-init : goal.loop-index-init
loop-index-init c = search (arith, nothing_taken)

pub flush-requires-clause-within : goal.flush-requires-clause-within
flush-requires-clause-within c = c.loop-index.invariant.within

pub flush-requires-clause-held : goal.flush-requires-clause-held
flush-requires-clause-held c =
    omega (arith, c.loop-index-test.true, c.threads_of-threads.ensures, c.requires.sized.logs, c.loop-index.invariant.sized.logs)

pub returns-then-not-flush-clause-taken : goal.returns-then-not-flush-clause-taken
returns-then-not-flush-clause-taken c = stopped (number_taken Ends c.loop-index.index (threads_in c.args.judge.now)
    (omega (arith, c.loop-index-test.true, c.threads_of-threads.ensures)) c.loop-index.invariant.far
    (λ f. c.if-not-flush.ensures.taken f (Ends (c.loop-index.index + 1)) (λ s. refl)))

pub loop-index-preserved : goal.loop-index-preserved
loop-index-preserved c = record {
  sized = sized_on c.loop-index.invariant.sized c.if-not-flush.ensures.sized;
  within = c.if-not-flush.ensures.within;
  far = number_taken Ends c.loop-index.index (threads_in c.args.judge.now) (omega (
    arith,
    c.loop-index-test.true,
    c.threads_of-threads.ensures,
  )) c.loop-index.invariant.far (λ f. c.if-not-flush.ensures.taken f (Ends (c.loop-index.index + 1)) (λ s. refl));
}

pub returns-clause-taken : goal.returns-clause-taken
returns-clause-taken c = numbers_taken Ends c.loop-index.index (threads_in c.args.judge.now)
    (omega (arith, c.loop-index-test.false, c.threads_of-threads.ensures)) c.loop-index.invariant.far
