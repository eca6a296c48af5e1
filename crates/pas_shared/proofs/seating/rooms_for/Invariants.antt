use Rattle.std.proofs.Common.{◌≡◌, ◌≤◌, [], All, vec_len, vec_capacity}
use Rattle.pas_profile.specs.Rooms.{shown, size_of_room, EventRoom}
use Rattle.pas_shared.proofs.seating.rooms_for.Given as goal

abbrev pub invariant-loop-index : goal.invariant-loop-index
invariant-loop-index l = record {
  count : vec_len l.rooms ≡ l._index;
  reserved : l.actors ≤ vec_capacity l.rooms;
  empty : All (λ (room : EventRoom). shown room ≡ []) l.rooms.items;
  sized : All (λ (room : EventRoom). size_of_room room ≡ l.events) l.rooms.items;
}
