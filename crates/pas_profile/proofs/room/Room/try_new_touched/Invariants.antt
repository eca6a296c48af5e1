-- there are as many items as were counted, in a room of the same size
use Rattle.std.proofs.Common.{◌≡◌, length}
use Rattle.pas_profile.proofs.room.Room.try_new_touched.Given as goal

abbrev pub invariant-loop : goal.invariant-loop
invariant-loop g l = (length l.room.items ≡ l.counter) × (l.room.bound ≡ l.bound)
