use Rattle.std.proofs.Common.{◌≡◌, ◌+◌, ◌∙◌, suc, true, false, sym}
use Rattle.pas_threads.proofs.{Common.{is_set, evenly}, TakingTurns.{wakes_begin, wakes_go_on, wakes_pass, wakes_end}, turns.wake_all.Goals.then-get}
use Rattle.pas_threads.proofs.turns.wake_all.Goals.{else-get}
use Rattle.pas_threads.proofs.turns.wake_all.Goals as goal

pub loop-index-init : goal.loop-index-init
loop-index-init c = record { far = λ f later p at. wakes_begin c.args.awake at }

pub wake-requires : goal.wake-requires
wake-requires c =
    let r = c.requires.rest in
    let so = c.loop-index.invariant.far r.0 r.1 r.2 r.3 in
    let i = c.loop-index.index in
    record { rests = (r.0, suc i, evenly (r.1 (suc i)), so.done.turns.came.reached, (so.done.turns.stand i c.index-threads-index.result c.loop-index-test.true).here) }

pub loop-index-preserved : goal.loop-index-preserved
loop-index-preserved c = elim c.if-get.branch [
  | then-get w ↦
      let i = c.loop-index.index in
      let test = c.loop-index-test.true in
      rw (w.threads-is) (record {
        far = λ f later p at.
            let so = c.loop-index.invariant.far f later p at in
            let d = w.index-threads-index.result in
            let woke = w.wake.ensures.woke f (suc i) (evenly (later (suc i))) so.done.turns.came.reached (so.done.turns.stand i d test).here in
            wakes_go_on c.args.awake i d w.wake.new.worker (sym c.get.ensures ∙ w.if-get.true) so test c.loop-index.auto.threads woke.0 woke.1;
      })
  | else-get w ↦
      let off : is_set c.args.awake (c.loop-index.index + 1) ≡ false = sym c.get.ensures ∙ w.if-get.false in
      rw (w.threads-is)
      (record { far = λ f later p at. wakes_pass c.args.awake c.loop-index.index off c.loop-index-test.true (c.loop-index.invariant.far f later p at) })
]

pub returns-clause-woke : goal.returns-clause-woke
returns-clause-woke c = λ f later p at. wakes_end c.args.awake c.loop-index.index c.loop-index-test.false (c.loop-index.invariant.far f later p at)
