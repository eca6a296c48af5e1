use Rattle.std.proofs.Common.{◌<◌, ◌≡◌, ◌∙◌, ◌+◌, ◌-◌, ℕ, List, [], length, set, ap, arith, length-set}
use Rattle.pas_replay.proofs.{Common.{cached, ThreadCache, Ends}, InOrder.{next_number, no_number}, Turning.so_below_next}
use Rattle.pas_replay.proofs.order.stop_all.Goals as goal

pub end-requires-clause-thread : goal.end-requires-clause-thread
end-requires-clause-thread c = omega (arith, c.loop-index-test.true, c.loop-index.invariant.threads)

pub end-requires-clause-so_far : goal.end-requires-clause-so_far
end-requires-clause-so_far c =
    let so0 = c.requires.so_far.1 in
    let so = c.loop-index.invariant.far c.requires.so_far.0 so0.0 so0.1 so0.2 in
    let lt : c.loop-index.index < so0.0.threads = omega (arith, c.loop-index-test.true, so0.2.1.1.many) in
    (c.requires.so_far.0, (so0.0, _, next_number Ends 1 c.loop-index.index so0.0.threads so0.1 _ (omega arith) lt so))

pub loop-index-preserved : goal.loop-index-preserved
loop-index-preserved c =
    let i = c.loop-index.index in
    let same = c.loop-index.invariant.threads in
    let now = c.loop-index.actors.caches.items in
    let ended = c.end.ensures.cache in
    record {
      far = λ table r more so.
          c.end.ensures.so_far table r _ (next_number Ends 1 i r.threads more _ (omega arith) (omega (arith, c.loop-index-test.true, so.1.1.many))
          (c.loop-index.invariant.far table r more so));
      threads = ap (λ (cs : List ThreadCache). length cs) ended.1 ∙ length-set now (i + 1 - 1) ended.0 ∙ same;
      empty = so_below_next (λ (cache : ThreadCache). (cached cache).locals ≡ []) now c.end.new.actors.caches.items i ended.0
          (ended.1 ∙ ap (λ (j : ℕ). set now j ended.0) (let at : i + 1 - 1 ≡ i = omega arith in at))
          (omega (arith, c.loop-index-test.true, same)) c.loop-index.invariant.empty ended.2;
    }

pub returns-clause-so_far : goal.returns-clause-so_far
returns-clause-so_far c table r more so =
    no_number Ends 1 c.loop-index.index r.threads more (omega (arith, c.loop-index-test.false, so.1.1.many)) (c.loop-index.invariant.far table r more so)
