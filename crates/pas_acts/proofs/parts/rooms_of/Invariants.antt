-- the actors so far have their rooms, and those of the others are left
use Rattle.std.proofs.Common.{◌≡◌, ◌≤◌, ◌+◌, ℕ, vec_capacity}
use Rattle.pas_acts.proofs.Common.{threads_of, has_seat, outcomes_of, AreRooms}
use Rattle.pas_utility.specs.Pools.{room_of}
use Rattle.pas_acts.proofs.parts.rooms_of.Given as goal

abbrev pub invariant-loop-actor : goal.invariant-loop-actor
invariant-loop-actor l = record {
  made : AreRooms (room_of l.fn.utility) l.actor l.rooms.items;
  left : (k : ℕ) → l.actor ≤ k → room_of l.utility k ≡ room_of l.fn.utility k;
  seats : (k : ℕ) → has_seat l.utility k ≡ has_seat l.fn.utility k;
  outcomes : outcomes_of l.utility ≡ outcomes_of l.fn.utility;
  threads : threads_of l.utility ≡ threads_of l.fn.utility;
  reserved : l.threads + 1 ≤ vec_capacity l.rooms;
}
