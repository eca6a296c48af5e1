use Rattle.std.proofs.Common.{◌≡◌, ◌<◌, ◌+◌, true, false, [], sym, ◌∙◌, arith, append-nil}
use Rattle.pas_bits.specs.Masks.{is_set}
use Rattle.pas_trace.{specs.Acts.Wakes, proofs.ThreadsInOrder.{next_chosen, next_passed, none_left}}
use Rattle.pas_check.{specs.Checks.threads_in, proofs.{Actings.{act_taken, nothing_taken, sized_on, then_taken}, checking.wake_all.Goals.{then-get, else-get}}}
use Rattle.pas_check.proofs.checking.wake_all.Goals as goal

pub loop-index-init : goal.loop-index-init
loop-index-init c = search (arith, nothing_taken, append-nil)

pub wake-requires : goal.wake-requires
wake-requires c = omega (arith, c.loop-index-test.true, c.threads_of-threads.ensures, c.requires.sized.idle_since, c.loop-index.invariant.sized.idle_since)

pub loop-index-preserved : goal.loop-index-preserved
loop-index-preserved c =
    let low : c.loop-index.index < threads_in c.args.judge.now = omega (arith, c.loop-index-test.true, c.threads_of-threads.ensures) in
    elim c.if-get.branch [
      | then-get w ↦
          let on : is_set c.args.awake (c.loop-index.index + 1) ≡ true = sym c.get.ensures ∙ w.if-get.true in
          rw w.judge-is (record {
            sized = sized_on c.loop-index.invariant.sized w.wake.ensures.sized;
            far = λ text at within. then_taken _ (next_chosen Wakes (is_set c.args.awake) c.loop-index.index (threads_in c.args.judge.now) [] low on)
                (c.loop-index.invariant.far text at within) (act_taken (λ f. w.wake.ensures.taken f text at within));
          })
      | else-get w ↦
          let off : is_set c.args.awake (c.loop-index.index + 1) ≡ false = sym c.get.ensures ∙ w.if-get.false in
          rw w.judge-is (record {
            sized = c.loop-index.invariant.sized;
            far = λ text at within. rw (next_passed Wakes (is_set c.args.awake) c.loop-index.index (threads_in c.args.judge.now) [] low off)
                at (c.loop-index.invariant.far text at within);
          })
    ]

pub returns-clause-taken : goal.returns-clause-taken
returns-clause-taken c = λ text at within.
    rw (none_left Wakes (is_set c.args.awake) c.loop-index.index (threads_in c.args.judge.now) [] (omega (arith, c.loop-index-test.false, c.threads_of-threads.ensures)))
    at (c.loop-index.invariant.far text at within)
