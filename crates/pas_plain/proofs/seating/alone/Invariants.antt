use Rattle.std.proofs.Common.{◌≡◌, ◌≤◌, ◌+◌, [], All, vec_len, vec_capacity}
use Rattle.pas_profile.specs.Rooms.{shown, EventRoom}
use Rattle.pas_plain.proofs.seating.alone.Given as goal

abbrev pub invariant-loop-other : goal.invariant-loop-other
invariant-loop-other l = record {
  count : vec_len l.rooms ≡ l._other;
  reserved : l.profile.threads + 1 ≤ vec_capacity l.rooms;
  empty : All (λ (room : EventRoom). shown room ≡ []) l.rooms.items;
}
