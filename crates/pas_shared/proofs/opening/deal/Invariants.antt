use Rattle.std.{proofs.Common.{◌≡◌, ◌≤◌, ◌+◌, ◌++◌, List, [], length, vec_len, vec_capacity}, specs.List.All}
use Rattle.pas_profile.specs.Rooms.{shown, EventRoom}
use Rattle.pas_shared.specs.{declared.rule.Roster.TheVariants.Unused, Passes.AreFresh}
use Rattle.pas_shared.proofs.opening.deal.Given as goal

-- the passes so far are those of the first rooms, and the seat names the other actors
abbrev pub invariant-loop-room : goal.invariant-loop-room
invariant-loop-room l = record {
  seat : (l.seat.table_id ≡ l.words.table_id) × (l.seat.me ≡ (Unused (vec_len l.passes), []));
  some : (done : List EventRoom) × (done ++ l.room-iterator.rest.items ≡ l.fn.rooms.items) × AreFresh l.words.table_id l.profile 0 done l.passes.items;
  empty : All (λ (room : EventRoom). shown room ≡ []) l.room-iterator.rest.items;
  left : vec_len l.passes + length l.room-iterator.rest.items ≡ vec_len l.fn.rooms;
  reserved : vec_len l.fn.rooms ≤ vec_capacity l.passes;
}
