-- What a room for records shows.
use Rattle.std.specs.Prelude.{ℕ, List}
use Rattle.pas_profile.specs.Rooms.{Holding}
use Rattle.pas_records.specs.declared.record.Record.{Record}

abbrev pub Records : Type 0
Records = Holding Record

-- the records in it, in order
abbrev pub records_in : Records → List Record
records_in room = room.items

-- for how many records it was made
abbrev pub room_of : Records → ℕ
room_of room = room.bound
