-- the rooms so far are of the sizes that they had, and none has an event
use Rattle.std.proofs.Common.{ℕ, ◌≡◌, ◌≤◌, [], Option, All, length}
use Rattle.pas_threads.proofs.Common.{shown, EventRoom, AreRooms}
use Rattle.pas_threads.proofs.making.move_rooms.Given as goal

abbrev pub invariant-loop-other : goal.invariant-loop-other
invariant-loop-other l = record {
  empty : All (λ (room : EventRoom). shown room ≡ []) l.rooms.items;
  within : l.actor ≤ length l.rooms.items;
  kept : (sizes : ℕ → Option ℕ) (count : ℕ) → AreRooms sizes count l.fn.rooms.items → AreRooms sizes count l.rooms.items;
}
