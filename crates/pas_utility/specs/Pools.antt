-- What a region's pools have left.
use Rattle.std.specs.Prelude.{ℕ, ◌-◌, Bool, Option, None, length, slice_index_or}
use Rattle.pas_utility.specs.{Parts.{size_left, is_left, places_left}, declared.utility.Utility.Utility}

-- The threads are the actors from 1 to this one. The scavenger, actor 0, has an event room alone.
abbrev pub threads_of : Utility → ℕ
threads_of utility = length utility.rooms.items - 1

-- the size of the actor's event room. None once it was handed out
abbrev pub room_of : Utility → ℕ → Option ℕ
room_of utility actor = size_left (slice_index_or utility.rooms.items actor None)

-- the seat of the thread's cache wasn't handed out yet
abbrev pub has_seat : Utility → ℕ → Bool
has_seat utility thread = is_left (slice_index_or utility.seats.items thread None)

-- for how many pairs the list of outcomes was made. None once it was handed out
abbrev pub outcomes_of : Utility → Option ℕ
outcomes_of utility = places_left utility.outcomes
