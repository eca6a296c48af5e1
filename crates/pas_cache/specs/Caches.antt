-- What a cache contains, and when its actor is at rest with it.
use Rattle.std.specs.Prelude.{ℕ, ◌≤◌, length, All}
use Rattle.pas_profile.specs.declared.profile.Profile.{Profile}
use Rattle.pas_steps.specs.Views.{View}
use Rattle.pas_free_log.specs.Conditions.{IsEntryOf}
use Rattle.pas_cache.specs.{Locals.RestsWith, declared.cache.ThreadCache.ThreadCache}
pub use Rattle.pas_cache.specs.Contents.{Cached}

-- the thread whose cache it is
abbrev pub seat_of : ThreadCache → ℕ
seat_of cache = cache.thread

-- what is in it
abbrev pub cached : ThreadCache → Cached
cached cache = cache.contents

-- The actor has what the local allocators have, and nothing else. There are at most 32 of them, and at most 64 logged entries, each of which
-- may be ended.
pub record AtRest (f : Profile) (c : Cached) (v : View) : Type 0 where
  pub locals : RestsWith f c.locals v
  pub few : length c.locals ≤ 32
  pub entries : All (IsEntryOf f) c.log
  pub few_entries : length c.log ≤ 64
