-- What every kit of a plan is made of.
use Rattle.std.specs.Prelude.{ℕ, ◌<◌, ◌≡◌, List, [], length, Option, Some, All, slice_index_or}
use Rattle.pas_profile.specs.Rooms.{shown, size_of_room, EventRoom}
use Rattle.pas_cache.specs.{Caches.cached, declared.cache.ThreadCache.ThreadCache}
use Rattle.pas_answers.specs.Replays.{empty_cache}

-- a room for each of so many actors, from actor 0 on, of the size that was left for it, with no event
pub record AreRooms (sizes : ℕ → Option ℕ) (count : ℕ) (rooms : List EventRoom) : Type 0 where
  pub many : length rooms ≡ count
  pub each : (k : ℕ) (d : EventRoom) → k < count → sizes k ≡ Some (size_of_room (slice_index_or rooms k d))
  pub empty : All (λ room. shown room ≡ []) rooms

-- so many caches that nobody used
pub record AreUnused (count : ℕ) (caches : List ThreadCache) : Type 0 where
  pub many : length caches ≡ count
  pub each : (i : ℕ) (d : ThreadCache) → i < count → cached (slice_index_or caches i d) ≡ empty_cache
