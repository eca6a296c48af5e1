-- a seat for each thread up to this one
use Rattle.std.proofs.Common.{◌≡◌, ◌+◌, ◌≤◌, ℕ, length, true, None, vec_capacity, slice_index_or}
use Rattle.pas_utility.specs.Parts.{is_left, AreNamed}
use Rattle.pas_utility.proofs.utility.seats_for.Given as goal

abbrev pub invariant-loop-below : goal.invariant-loop-below
invariant-loop-below l = record {
  count : length l.seats.items ≡ l.below + 1;
  left : (k : ℕ) → 1 ≤ k → k ≤ l.below → is_left (slice_index_or l.seats.items k None) ≡ true;
  named : AreNamed l.seats.items;
  reserved : l.threads + 1 ≤ vec_capacity l.seats;
}
