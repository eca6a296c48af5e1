-- The passes so far, and those of the rooms that are left, are all passes.
use Rattle.std.proofs.Common.{◌≡◌, ◌≤◌, ◌+◌, ◌++◌, length, vec_len, vec_capacity}
use Rattle.pas_plain.specs.Plain.{passes_from}
use Rattle.pas_plain.proofs.session.passes_for.Given as goal

abbrev pub invariant-loop-room : goal.invariant-loop-room
invariant-loop-room l = record {
  all : l.passes.items ++ passes_from (vec_len l.passes) l.room-iterator.rest.items ≡ passes_from 0 l.fn.rooms.items;
  left : vec_len l.passes + length l.room-iterator.rest.items ≡ vec_len l.fn.rooms;
  reserved : vec_len l.fn.rooms ≤ vec_capacity l.passes;
}
