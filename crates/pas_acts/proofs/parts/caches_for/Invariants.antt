-- the threads so far have empty caches, and the seats of the others are left
use Rattle.std.proofs.Common.{◌≡◌, ◌≤◌, ◌<◌, ℕ, vec_capacity}
use Rattle.pas_acts.proofs.Common.{threads_of, has_seat, outcomes_of, AreUnused}
use Rattle.pas_acts.proofs.parts.caches_for.Given as goal

abbrev pub invariant-loop-below : goal.invariant-loop-below
invariant-loop-below l = record {
  made : AreUnused l.below l.caches.items;
  left : (k : ℕ) → l.below < k → has_seat l.utility k ≡ has_seat l.fn.utility k;
  threads : threads_of l.utility ≡ threads_of l.fn.utility;
  outcomes : outcomes_of l.utility ≡ outcomes_of l.fn.utility;
  reserved : l.threads ≤ vec_capacity l.caches;
}
