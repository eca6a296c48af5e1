-- Entries of a log.
use Rattle.std.specs.Prelude.{ℕ, ◌==◌, Bool, not}
use Rattle.pas_profile.specs.declared.{entry.Entry.Entry, name.Name.Name}

-- the entry of a name with a room. A room of 0 says that none was named: each block has 16 bytes at least
abbrev pub sized_entry : Name → ℕ → Entry
sized_entry name room = record { name = name; room = room }

abbrev pub entry_of : Name → Entry
entry_of name = sized_entry name 0

abbrev pub is_sized : Entry → Bool
is_sized entry = not (entry.room == 0)
