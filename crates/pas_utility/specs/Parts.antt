-- The parts of a region's pools that are left.
use Rattle.std.specs.Prelude.{ℕ, ◌+◌, ◌≤◌, ◌<◌, ◌≡◌, Bool, true, false, List, length, Option, Some, None, slice_index, slice_index_or}
use Rattle.pas_profile.specs.Rooms.{shown, size_of_room, EventRoom}
use Rattle.pas_utility.specs.{declared.seat.CacheSeat.CacheSeat, Outcomes.{pairs_in, places_of, Outcomes}, Seats.thread_of}

-- the size of an event room that is left
abbrev pub size_left : Option EventRoom → Option ℕ
size_left None = None
size_left (Some room) = Some (size_of_room room)

abbrev pub is_left : Option CacheSeat → Bool
is_left None = false
is_left (Some seat) = true

-- how many events are in an event room that is left
abbrev pub events_left : Option EventRoom → ℕ
events_left None = 0
events_left (Some room) = length (shown room)

-- the number of the seat's thread, where it is left
abbrev pub number_left : ℕ → Option CacheSeat → ℕ
number_left thread None = thread
number_left thread (Some seat) = thread_of seat

-- for how many pairs a list of outcomes that is left was made
abbrev pub places_left : Option Outcomes → Option ℕ
places_left None = None
places_left (Some outcomes) = Some (places_of outcomes)

-- how many pairs are in a list of outcomes that is left
abbrev pub pairs_left : Option Outcomes → ℕ
pairs_left None = 0
pairs_left (Some outcomes) = length (pairs_in outcomes)

-- ---- what holds of the parts that are left
-- each room that is left has no event
abbrev pub AreEmpty : List (Option EventRoom) → Type 0
AreEmpty rooms = (k : ℕ) → events_left (slice_index_or rooms k None) ≡ 0

-- each seat that is left stands at the number of its thread
abbrev pub AreNamed : List (Option CacheSeat) → Type 0
AreNamed seats = (k : ℕ) → number_left k (slice_index_or seats k None) ≡ k

-- ---- the parts at the opening
-- a room of each size, without an event
pub record AreRooms (bounds : List ℕ) (rooms : List (Option EventRoom)) : Type 0 where
  pub count : length rooms ≡ length bounds
  pub sizes : (k : ℕ) → k < length bounds → size_left (slice_index_or rooms k None) ≡ Some (slice_index bounds k)
  pub empty : AreEmpty rooms

-- a seat for each thread
pub record AreSeats (threads : ℕ) (seats : List (Option CacheSeat)) : Type 0 where
  pub count : length seats ≡ threads + 1
  pub left : (k : ℕ) → 1 ≤ k → k ≤ threads → is_left (slice_index_or seats k None) ≡ true
  pub named : AreNamed seats
