-- The room of a request is large enough, and its directory is one of the profile.
use Rattle.std.proofs.Common.{◌≡◌, ℕ, max, Bool, ap, sym, arith}
use Rattle.pas_profile.specs.{Directories.{IsKind, IsKindAmong}, Profiles.{IsAdmitted, IsDirectoryOf}, Requests.{kind_of_route, directory_for}, Routes.route_of}
use Rattle.pas_profile.specs.{Routes.{room_by, room_of, IsRouteOf, IsRoomFor}, declared.{directory.Route.Route, profile.Profile.Profile}}
use Rattle.pas_profile.proofs.Sizes.{route_is, class_known, class_size_whole}

-- ---- rooms
pub room_routed : (classes size align : ℕ) (route : Route) → route_of classes size align ≡ route → room_by route (max size 1) ≡ room_of classes size align
room_routed classes size align route is = ap (λ r. room_by r (max size 1)) (sym is)

room_fits : (classes size align : ℕ) (route : Route) → IsRouteOf classes size align route → IsRoomFor size (room_by route (max size 1))
room_fits classes size align route is = grind (arith, class_size_whole, class_known)

-- The room of a request is large enough for its size.
pub room_is : (classes size align : ℕ) → IsRoomFor size (room_of classes size align)
room_is classes size align = room_fits classes size align (route_of classes size align) (route_is classes size align)

-- ---- directories
kind_routed : (shared : Bool) (classes size align : ℕ) (route : Route) → IsRouteOf classes size align route
    → IsKind (kind_of_route shared route) × IsKindAmong classes (kind_of_route shared route)
kind_routed shared classes size align route is = grind (arith, class_known)

-- The directory of an admitted request is one of the profile.
pub directory_is : (f : Profile) (size align heap : ℕ) → IsAdmitted f size align heap → IsDirectoryOf f (directory_for f heap size align)
directory_is f size align heap may = search (arith, kind_routed, route_is)
