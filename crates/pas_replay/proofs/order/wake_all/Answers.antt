use Rattle.std.proofs.Common.{◌∙◌, ◌<◌, ◌≤◌, sym, arith}
use Rattle.pas_replay.proofs.{Common.{is_set, Wakes}, InOrder.{as_left, chosen_next, passed_next, none_next}, order.wake_all.Goals.{then-get, else-get}}
use Rattle.pas_replay.proofs.order.wake_all.Goals as goal

pub wake-requires-clause-thread : goal.wake-requires-clause-thread
wake-requires-clause-thread c = omega (arith, c.loop-index-test.true, c.loop-index.invariant.threads)

pub wake-requires-clause-so_far : goal.wake-requires-clause-so_far
wake-requires-clause-so_far c =
    let so0 = c.requires.so_far in
    let s = so0.2 in
    let lt : c.loop-index.index < s.0.threads = omega (arith, c.loop-index-test.true, s.2.1.1.many) in
    let chosen = chosen_next s.0 Wakes (is_set c.args.awake) c.loop-index.index s.0.threads s.1 lt (sym c.get.ensures ∙ c.if-get.true) in
    (so0.0, so0.1, (s.0, _, as_left chosen (c.loop-index.invariant.far s.0 s.1 so0.0 so0.1 s.2)))

pub loop-index-preserved : goal.loop-index-preserved
loop-index-preserved c = elim c.if-get.branch [
  | then-get w ↦
      let on = sym c.get.ensures ∙ w.if-get.true in
      rw (w.desk-is, w.actors-is) (record {
        far = λ r more table out so.
            let lt : c.loop-index.index < r.threads = omega (arith, c.loop-index-test.true, so.1.1.many) in
            let chosen = chosen_next r Wakes (is_set c.args.awake) c.loop-index.index r.threads more lt on in
            w.wake.ensures.so_far table out r _ (as_left chosen (c.loop-index.invariant.far r more table out so));
        threads = w.wake.ensures.threads ∙ c.loop-index.invariant.threads;
      })
  | else-get w ↦
      let off = sym c.get.ensures ∙ w.if-get.false in
      rw (w.desk-is, w.actors-is) (record {
        far = λ r more table out so.
            let lt : c.loop-index.index < r.threads = omega (arith, c.loop-index-test.true, so.1.1.many) in
            as_left (passed_next r Wakes (is_set c.args.awake) c.loop-index.index r.threads more lt off) (c.loop-index.invariant.far r more table out so);
        threads = c.loop-index.invariant.threads;
      })
]

pub returns-clause-so_far : goal.returns-clause-so_far
returns-clause-so_far c table out r more so =
    let past : r.threads ≤ c.loop-index.index = omega (arith, c.loop-index-test.false, so.1.1.many) in
    as_left (none_next r Wakes (is_set c.args.awake) c.loop-index.index r.threads more past) (c.loop-index.invariant.far r more table out so)
