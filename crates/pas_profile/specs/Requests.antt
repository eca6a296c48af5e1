-- The directory of a request: of which kind the pages are that serve it.
use Rattle.std.specs.{Prelude.{ℕ, ◌==◌, Bool, true, false}, Int.bit_at}
use Rattle.pas_profile.specs.{Routes.{route_of, room_of}, declared.{directory.{Directory.Directory, Kind.Kind, Route.Route}, profile.Profile.Profile}}

-- the route of a request in a region of the profile
abbrev pub route_in : Profile → ℕ → ℕ → Route
route_in f size align = route_of f.classes size align

-- the room of the block that it gets there
abbrev pub room_in : Profile → ℕ → ℕ → ℕ
room_in f size align = room_of f.classes size align

-- the heap is declared as shared: its bit is set
abbrev pub is_shared : Profile → ℕ → Bool
is_shared f heap = bit_at f.shared heap == 1

-- the kind of the pages for a class, in a shared heap or in another
abbrev pub kind_of_class : Bool → ℕ → Kind
kind_of_class true class = Kind.Shared
kind_of_class false class = Kind.Class class

-- the kind of the pages for a route
abbrev pub kind_of_route : Bool → Route → Kind
kind_of_route shared (Route.Class class) = kind_of_class shared class
kind_of_route shared Route.Bitfit = Kind.Bitfit
kind_of_route shared Route.Large = Kind.Large

-- the directory of the class's blocks in the heap
abbrev pub class_home : Profile → ℕ → ℕ → Directory
class_home f heap class = record { heap = heap; kind = kind_of_class (is_shared f heap) class }

-- THE DIRECTORY of a request: its heap, with the kind that its size and alignment get there
abbrev pub directory_for : Profile → ℕ → ℕ → ℕ → Directory
directory_for f heap size align = record { heap = heap; kind = kind_of_route (is_shared f heap) (route_in f size align) }
