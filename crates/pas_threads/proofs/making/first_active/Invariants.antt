-- none of the threads so far has an operation
use Rattle.std.proofs.Common.{ℕ, ◌≡◌, ◌≤◌, false}
use Rattle.pas_threads.proofs.Common.{is_active}
use Rattle.pas_threads.proofs.making.first_active.Given as goal

abbrev pub invariant-loop-below : goal.invariant-loop-below
invariant-loop-below l = record { none : (k : ℕ) → 1 ≤ k → k ≤ l.below → is_active l.ops k ≡ false }
