-- Regions that nobody used yet, and what their actors have before and between their calls.
use Rattle.std.specs.Prelude.{ℕ, ◌≡◌, ◌≢◌, []}
use Rattle.pas_profile.specs.declared.profile.Profile.{Profile}
use Rattle.pas_steps.specs.{Views.View, Lists.{Whole, part}}
use Rattle.pas_cache.specs.Caches.{Cached, AtRest}
use Rattle.pas_plain.specs.{Plain.{profile_of, actor_of, room_of_pass, PassStands}, Seats.{region_of, pass_of, DeskStands}, Storms.StormStands}
use Rattle.pas_plain.specs.declared.{desk.PlainDesk.PlainDesk, pass.PlainPass.PlainPass}

-- ---- profiles
-- a region of so many pages, two threads and one heap
abbrev pub two_threads : ℕ → Profile
two_threads pages = record { pages = pages; threads = 2; age = 2; heaps = 1; shared = 0; classes = 16 }

-- the same with two heaps, of which the second has shared pages
abbrev pub stormy : ℕ → Profile
stormy pages = record { pages = pages; threads = 2; age = 2; heaps = 2; shared = 2; classes = 16 }

-- the largest region of twenty classes, of two threads and one heap
abbrev pub large_region : Profile
large_region = record { pages = 16384; threads = 2; age = 2; heaps = 1; shared = 0; classes = 20 }

-- a region of so many pages and threads, and of one heap
abbrev pub shared_profile : ℕ → ℕ → Profile
shared_profile pages threads = record { pages = pages; threads = threads; age = 2; heaps = 1; shared = 0; classes = 16 }

-- ---- two actors at one plain region
-- the desk and the pass of another actor stand for one list, in which that actor made no step
pub record Waits (desk : PlainDesk) (pass : PlainPass) (room : ℕ) : Type 0 where
  pub view : View
  pub whole : Whole
  pub stood : DeskStands desk view whole
  pub rests : PassStands (profile_of (region_of desk)) pass whole
  pub other : actor_of (pass_of desk) ≢ actor_of pass
  pub none : part (actor_of pass) whole ≡ []
  pub room_of : room_of_pass (pass_of desk) ≡ room
  pub room_of_other : room_of_pass pass ≡ room

-- The desk and the pass of another actor stand for one list, at whose end the desk's actor is at rest with the cache, and the other one has nothing
-- and is clear.
pub record RestsBeside (desk : PlainDesk) (foreign : PlainPass) (c : Cached) : Type 0 where
  pub view : View
  pub whole : Whole
  pub stands : StormStands (region_of desk) (pass_of desk) foreign view whole
  pub rest : AtRest (profile_of (region_of desk)) c view
