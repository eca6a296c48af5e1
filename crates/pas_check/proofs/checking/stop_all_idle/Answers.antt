use Rattle.std.proofs.Common.{[], not, refl, arith, append-nil}
use Rattle.pas_bits.specs.Masks.{is_set}
use Rattle.pas_trace.{specs.Acts.StopsIdle, proofs.ThreadsInOrder.{next_there, none_left}}
use Rattle.pas_check.{specs.Checks.threads_in, proofs.Actings.{ahead, idly_taken, nothing_taken, sized_on, stopped, taken_on, then_taken}}
use Rattle.pas_check.proofs.checking.stop_all_idle.Goals as goal

pub loop-index-init : goal.loop-index-init
loop-index-init c = record {
  sized = record { profile = refl; logs = refl; idle_since = refl; names = refl };
  within = c.requires.within;
  far = taken_on (ahead (idly_taken c.requires.within (λ f s. refl))) (nothing_taken (search (arith, append-nil)));
}

pub stop_unless_awake-requires-clause-within : goal.stop_unless_awake-requires-clause-within
stop_unless_awake-requires-clause-within c = c.loop-index.invariant.within

pub stop_unless_awake-requires-clause-held : goal.stop_unless_awake-requires-clause-held
stop_unless_awake-requires-clause-held c =
    omega (arith, c.loop-index-test.true, c.threads_of-threads.ensures, c.requires.sized.logs, c.loop-index.invariant.sized.logs)

pub stop_unless_awake-requires-clause-known : goal.stop_unless_awake-requires-clause-known
stop_unless_awake-requires-clause-known c =
    omega (arith, c.loop-index-test.true, c.threads_of-threads.ensures, c.requires.sized.idle_since, c.loop-index.invariant.sized.idle_since)

pub returns-then-not-stop_unless_awake-clause-taken : goal.returns-then-not-stop_unless_awake-clause-taken
returns-then-not-stop_unless_awake-clause-taken c =
    stopped (then_taken _ (next_there (λ k. StopsIdle k c.args.epochs) (λ k. not (is_set c.args.awake k)) c.loop-index.index
    (threads_in c.args.judge.now) [] (omega (arith, c.loop-index-test.true, c.threads_of-threads.ensures)))
    c.loop-index.invariant.far c.if-not-stop_unless_awake.ensures.taken)

pub loop-index-preserved : goal.loop-index-preserved
loop-index-preserved c = search (arith, sized_on, then_taken, next_there)

pub returns-clause-taken : goal.returns-clause-taken
returns-clause-taken c =
    search (arith, none_left)
