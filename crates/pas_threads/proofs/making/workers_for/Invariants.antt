-- the workers so far have the first passes, and keepers with the first of theirs, and there is a cache for each of the others
use Rattle.std.proofs.Common.{◌≡◌, ◌≤◌, ◌+◌, ◌++◌, List, All, drop, length, vec_capacity}
use Rattle.pas_threads.proofs.Common.{cached, ThreadCache, SharedPass, empty_cache, AreEquipped, AreKeptBy}
use Rattle.pas_threads.proofs.making.workers_for.Given as goal

abbrev pub invariant-loop-pass : goal.invariant-loop-pass
invariant-loop-pass l = record {
  some : (done : List SharedPass) × (done ++ l.pass-iterator.rest.items ≡ l.fn.passes.items) × AreEquipped l.bounds done l.workers.items;
  kept : AreKeptBy l.bounds (length l.fn.passes.items) l.fn.kept.items l.fn.books.items l.workers.items;
  passes_left : l.kept.items ≡ drop (length l.workers.items) l.fn.kept.items;
  books_left : l.books.items ≡ drop (length l.workers.items) l.fn.books.items;
  unused : All (λ (cache : ThreadCache). cached cache ≡ empty_cache) l.caches.items;
  caches : length l.caches.items ≡ length l.pass-iterator.rest.items;
  many : length l.workers.items + length l.pass-iterator.rest.items ≡ length l.fn.passes.items;
  reserved : length l.fn.passes.items ≤ vec_capacity l.workers;
}
