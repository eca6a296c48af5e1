-- How a request is served.
use Rattle.std.specs.Prelude.{ℕ, ◌+◌, ◌-◌, ◌*◌, ◌/◌, ◌%◌, ◌<◌, ◌≤◌, ◌≡◌, ◌==◌, nat_le, max, ◌&&◌, if◌then◌else◌, List, [], ◌∷◌, Option, None, Some}
use Rattle.pas_profile.specs.{Classes.{class_size, sizes_of}, declared.directory.Route.{Route, TheVariants.{Class, Bitfit, Large}}}

-- the number of the first of these class sizes, which are numbered from n on, that is large enough and a multiple of the alignment
abbrev pub first_class : List ℕ → ℕ → ℕ → ℕ → Option ℕ
first_class [] n size align = None
first_class (c ∷ cs) n size align = if nat_le size c && (c % align == 0) then Some n else first_class cs (n + 1) size align

abbrev pub route_without_class : ℕ → Route
route_without_class size = if nat_le size 2048 then Bitfit else Large

abbrev pub route_with : Option ℕ → ℕ → Route
route_with None size = route_without_class size
route_with (Some class) size = Class class

-- In a region of so many classes: the smallest class that is at least the size and a multiple of the alignment; where there is none, a
-- bit-fit page for a size of at most 2,048 bytes, else whole pages. Size 0 counts as 1.
abbrev pub route_of : ℕ → ℕ → ℕ → Route
route_of classes size align = route_with (first_class (sizes_of classes) 0 (max size 1) align) (max size 1)

-- the least multiple of the step that is at least the size
abbrev pub rounded_up : ℕ → ℕ → ℕ
rounded_up step size = (size + step - 1) / step * step

-- bytes of a block of this route for a size of at least 1: those of the class, whole grains, or whole pages
abbrev pub room_by : Route → ℕ → ℕ
room_by (Class class) size = class_size class
room_by Bitfit size = rounded_up 16 size
room_by Large size = rounded_up 4096 size

-- the room of the block that a request gets in a region of so many classes
abbrev pub room_of : ℕ → ℕ → ℕ → ℕ
room_of classes size align = room_by (route_of classes size align) (max size 1)

-- blocks of the class are large enough for the request and stand at multiples of the alignment
pub record Suits (size align class : ℕ) : Type 0 where
  pub room : max size 1 ≤ class_size class
  pub aligned : class_size class % align ≡ 0

-- The class is the smallest one of so many that suits.
pub record IsSmallest (classes size align class : ℕ) : Type 0 where
  pub known : class < classes
  pub suits : Suits size align class
  pub smallest : (smaller : ℕ) → smaller < class → ¬ Suits size align smaller

abbrev pub NoneSuits : ℕ → ℕ → ℕ → Type 0
NoneSuits classes size align = (class : ℕ) → class < classes → ¬ Suits size align class

-- The route that a request should have in a region of so many classes, with no word of how it is searched for.
abbrev pub IsRouteOf : ℕ → ℕ → ℕ → Route → Type 0
IsRouteOf classes size align (Class class) = IsSmallest classes size align class
IsRouteOf classes size align Bitfit = (size ≤ 2048) × NoneSuits classes size align
IsRouteOf classes size align Large = (2048 < size) × NoneSuits classes size align

-- the room is large enough for the size, and of whole grains
pub record IsRoomFor (size room : ℕ) : Type 0 where
  pub enough : max size 1 ≤ room
  pub whole : room % 16 ≡ 0
