-- The room that a free names: of whole grains, of one at least, and no larger than the region.
use Rattle.std.proofs.Common.{ℕ, ◌*◌, ◌≤◌, Some, arith}
use Rattle.pas_profile.{specs.{Profiles.IsValid, Requests.room_in, declared.profile.Profile.Profile}, proofs.Sizes.{route_is, class_known, class_size-grains}}
use Rattle.pas_profile.proofs.Sizes.{class_grains_positive, class_grains_le}
use Rattle.pas_trace.specs.EveryPlan.{IsRoomNamed}

-- The room that a free names, of a size within the region, is of whole grains, at least one, and at most the region.
pub room_named : (f : Profile) (size align : ℕ) → IsValid f → size ≤ f.pages * 4096 → IsRoomNamed f (Some (room_in f size align))
room_named f size align valid within = search (arith, class_known, class_size-grains, class_grains_le, class_grains_positive, route_is)
