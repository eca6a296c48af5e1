-- the rooms so far have their sizes, and no event
use Rattle.std.proofs.Common.{◌≡◌, ◌<◌, ◌≤◌, ℕ, length, Some, None, vec_capacity, slice_index, slice_index_or}
use Rattle.pas_utility.specs.Parts.{size_left, AreEmpty}
use Rattle.pas_utility.proofs.utility.rooms_for.Given as goal

abbrev pub invariant-loop-bound : goal.invariant-loop-bound
invariant-loop-bound l = record {
  count : length l.rooms.items ≡ l.bound-index;
  sizes : (k : ℕ) → k < l.bound-index → size_left (slice_index_or l.rooms.items k None) ≡ Some (slice_index l.bounds k);
  empty : AreEmpty l.rooms.items;
  reserved : length l.bounds ≤ vec_capacity l.rooms;
}
