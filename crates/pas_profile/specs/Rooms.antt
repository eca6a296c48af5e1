-- What a room holds.
use Rattle.std.specs.{Prelude.{ℕ, ◌≡◌, ◌<◌, ◌≤◌, ◌^◌, List, length}, Coded.{Coded, coded×, coded_ℕ, coded_list, le_prop}}
use base.Stored.{coded_via}
use mathlib.Core.HLevel.{is_prop→PathP}
use Rattle.pas_profile.specs.declared.event.Event.{Event}

-- the items in a room, in order, and for how many it was made
pub record Holding (A : Type 0) : Type 0 where
  pub items : List A
  pub bound : ℕ
  pub within : length items ≤ bound
  pub limited : bound < 2 ^ 32

-- two rooms that hold the same items and were made for as many are the same
pub same_holding : {A : Type 0} (one other : Holding A) → ◌≡◌ {A = List A × ℕ} (one.items, one.bound) (other.items, other.bound) → one ≡ other
same_holding {A} one other same = λ i. record {
  items = (same i).0;
  bound = (same i).1;
  within = is_prop→PathP (λ j. length (same j).0 ≤ (same j).1) (λ j. le_prop) one.within other.within i;
  limited = is_prop→PathP (λ j. (same j).1 < 2 ^ 32) (λ j. le_prop) one.limited other.limited i;
}

-- so a room is stored as its items and its bound
abbrev pub holding_code : {A : Type 0} → Coded A → Coded (Holding A)
holding_code code = coded_via (coded× (coded_list code) coded_ℕ) (λ room. (room.items, room.bound)) same_holding

-- ---- a room for events
abbrev pub EventRoom : Type 0
EventRoom = Holding Event

-- the events in it, in order
abbrev pub shown : EventRoom → List Event
shown room = room.items

-- for how many events it was made
abbrev pub size_of_room : EventRoom → ℕ
size_of_room room = room.bound
