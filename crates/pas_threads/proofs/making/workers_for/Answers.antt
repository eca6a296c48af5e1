use Rattle.std.proofs.Common.{◌≡◌, ◌+◌, ◌++◌, ◌∷◌, [], length, drop, slice_index, suc, Some, None, refl, ap, subst, arith, ◌∙◌, length-drop, length-append}
use Rattle.std.proofs.lemmas.List.Elements.{All-pop}
use Rattle.pas_threads.proofs.{Common.{cached, ThreadCache, empty_cache, IsEquipped, most_records, Worker}, Keepers.{keeper_next, kept_more}}
use Rattle.pas_threads.proofs.StartAndEnd.{equipped_more}
use Rattle.pas_shared.proofs.Opened.{one_done}
use Rattle.pas_threads.proofs.making.workers_for.Goals as goal

pub keeper_for-requires-clause-books : goal.keeper_for-requires-clause-books
keeper_for-requires-clause-books c =
    search (arith, length-drop)

pub keeper_for-requires-clause-bound : goal.keeper_for-requires-clause-bound
keeper_for-requires-clause-bound c some =
    search (arith, length-drop)

pub loop-pass-preserved : goal.loop-pass-preserved
loop-pass-preserved c =
    let i = c.loop-pass.invariant in
    let bounds = c.args.bounds.now in
    let step = c.in-Some.ensures.steps.0 in
    let rest = ap length step in
    let popped = c.in-Some-pop.ensures.len in
    let len = c.len-thread.ensures in
    let unused = All-pop (λ (cache : ThreadCache). cached cache ≡ empty_cache) _ _ _ c.pop.ensures.items i.unused in
    let worker : Worker = record { pass = Some c.in-Some.pass; cache = c.in-Some-pop.cache; requests = c.in_ok-requests.requests; out = c.in_ok-out.out; keeper = c.in_ok-keeper.keeper; member = None; bench = None } in
    let equipped : IsEquipped c.in-Some.pass (slice_index bounds (c.len-thread.result + 1)) worker = search arith in
    let n = length c.loop-pass.workers.items in
    let bound = most_records (slice_index bounds (c.len-threads.result + (c.len-thread.result + 1))) in
    let keeper = keeper_next c.args.kept.items c.args.books.items bound n c.in_ok-keeper.keeper i.passes_left i.books_left c.in_ok-keeper.ensures in
    let place : c.len-threads.result + (c.len-thread.result + 1) ≡ length c.args.passes.items + suc n = omega (arith, len, c.len-threads.ensures) in
    let pushed = ap length c.push_reserved.ensures.items in
    let longer : n + 1 ≡ length c.push_reserved.new.self.items = omega (arith, pushed, length-append c.loop-pass.workers.items (worker ∷ [])) in
    record {
      some = (
        i.some.0 ++ c.in-Some.pass ∷ [],
        one_done i.some.0 _ c.in-Some.pass _ _ step i.some.1,
        equipped_more c.in-Some.pass worker refl c.push_reserved.ensures.items i.some.2 (subst
            (λ m. IsEquipped c.in-Some.pass (slice_index bounds m) worker) (let is : c.len-thread.result + 1 ≡ suc n = omega (arith, len) in is) equipped),
      );
      kept = search (arith, kept_more);
      passes_left = keeper.1 ∙ ap (λ m. drop m c.args.kept.items) longer;
      books_left = keeper.2 ∙ ap (λ m. drop m c.args.books.items) longer;
      unused = unused.0;
      caches = omega (arith, rest, popped, i.caches);
      many = omega (arith, rest, c.push_reserved.ensures.len, i.many);
      reserved = omega (arith, i.reserved, c.push_reserved.ensures.capacity);
    }
