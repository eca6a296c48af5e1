use Rattle.std.proofs.Common.{List, length, length-set, ◌<◌, ◌≡◌, ◌∙◌, ◌+◌, ◌-◌, [], set, ap, arith}
use Rattle.pas_replay.proofs.{Common.{guards_in, GuardBook, Lowers}, InOrder.{next_number, no_number}, Turning.so_below_next}
use Rattle.pas_replay.proofs.order.lower_all.Goals as goal

pub lower-requires-clause-thread : goal.lower-requires-clause-thread
lower-requires-clause-thread c = omega (arith, c.loop-index-test.true, c.loop-index.invariant.books)

pub lower-requires-clause-so_far : goal.lower-requires-clause-so_far
lower-requires-clause-so_far c =
    let so0 = c.requires.so_far in
    let so = c.loop-index.invariant.far so0.0 so0.1 so0.2 so0.3 in
    let i = c.loop-index.index in
    let lt : i < so0.1.keepers = omega (arith, c.loop-index-test.true, so0.3.1.1.kept) in
    (so0.0, (so0.1, _, next_number Lowers (so0.1.threads + 1) i so0.1.keepers so0.2 _ (omega (arith, so0.3.1.1.many)) lt so))

pub loop-index-preserved : goal.loop-index-preserved
loop-index-preserved c =
    let i = c.loop-index.index in
    let now = c.loop-index.actors.books.items in
    let ended = c.lower.ensures.book in
    let same = c.loop-index.invariant.books in
    record {
      far = λ table r more so.
          c.lower.ensures.so_far table r _ (next_number Lowers (r.threads + 1) i r.keepers more _ (omega (arith, so.1.1.many))
          (omega (arith, c.loop-index-test.true, so.1.1.kept)) (c.loop-index.invariant.far table r more so));
      caches = c.lower.ensures.caches ∙ c.loop-index.invariant.caches;
      books = ap (λ (bs : List GuardBook). length bs) ended.1 ∙ length-set now (i + 1 - 1) ended.0 ∙ same;
      lowered = so_below_next (λ (book : GuardBook). guards_in book ≡ []) now c.lower.new.actors.books.items i ended.0
          (ended.1 ∙ ap (λ j. set now j ended.0) (let at : i + 1 - 1 ≡ i = omega arith in at))
          (omega (arith, c.loop-index-test.true, same)) c.loop-index.invariant.lowered ended.2;
    }

pub returns-clause-so_far : goal.returns-clause-so_far
returns-clause-so_far c table r more so =
    no_number Lowers (r.threads + 1) c.loop-index.index r.keepers more (omega (arith, c.loop-index-test.false, so.1.1.kept)) (c.loop-index.invariant.far table r more so)

pub returns-clause-lowered : goal.returns-clause-lowered
returns-clause-lowered c i d less =
    c.loop-index.invariant.lowered i d (omega (arith, less, c.loop-index-test.false, c.loop-index.invariant.books))
