-- A kit that nobody used, made for a plan, and the passes of a team.
use Rattle.std.specs.Prelude.{ℕ, suc, ◌+◌, ◌*◌, ◌<◌, ◌≤◌, ◌≡◌, List, [], ◌∷◌, ◌++◌, Option, Some, None, length, slice_index, slice_index_or, get_or}
use Rattle.std.specs.Prelude.{vec_capacity, min, drop, ◌^◌, ◌-◌}
use Rattle.pas_profile.specs.declared.profile.Profile.{Profile}
use Rattle.pas_trace.specs.{Plans.bounds_of, EveryPlan.operations_of, declared.plan.Plan.Plan}
use Rattle.pas_utility.specs.Outcomes.{places_of}
use Rattle.pas_cache.specs.Caches.{cached}
use Rattle.pas_shared.specs.{Passes.{profile_of, seat_of, view_of, IsPassOf}, declared.{region.SharedRegion.SharedRegion, pass.SharedPass.SharedPass}}
use Rattle.pas_answers.specs.{Fit.AllBelow, Names.{block_named, names_held}, Replays.{phases_of, region_of, threads_of, keepers_of, actors_of, empty_cache}}
use Rattle.pas_guard.specs.{Books.{guards_in, size_of_book}, declared.book.GuardBook.GuardBook}
use Rattle.pas_acts.specs.{PlanKeepers.guarded_of, NameBooks.{requests_in, room_for}, declared.names.NameBook.NameBook}
use Rattle.pas_threads.specs.{Pairs.AreGuarded, Sessions.HasPlaces, declared.{keeper.Keeper.Keeper, workers.Worker.Worker, scavenger.Scavenger.Scavenger}}
use Rattle.pas_threads.specs.declared.{phases.Team.Team, kit.SharedKit.SharedKit}
use Rattle.pas_records.specs.Rooms.{records_in, room_of}

-- ---- the passes
-- a pass of the region, of actor k, with room for so many events, that made no step
pub record IsNew (region : SharedRegion) (k bound : ℕ) (pass : SharedPass) : Type 0 where
  pub of_region : IsPassOf region pass
  pub actor : (seat_of pass).actor ≡ k
  pub room : (seat_of pass).room ≡ bound
  pub no_step : view_of pass ≡ []

-- such passes, of all actors in order, each with room for its actor's bound
abbrev pub AreNew : SharedRegion → List ℕ → List SharedPass → Type 0
AreNew region bounds passes = (i : ℕ) (d : SharedPass) → i < length passes → IsNew region i (slice_index bounds i) (slice_index_or passes i d)

-- ---- the team
-- The worker of a thread has this pass, a cache that nobody used, and room for so many requests and as many records, of which there are none.
pub record IsEquipped (pass : SharedPass) (bound : ℕ) (worker : Worker) : Type 0 where
  pub present : worker.pass ≡ Some pass
  pub cache : cached worker.cache ≡ empty_cache
  pub asked : requests_in worker.requests ≡ []
  pub requests : bound ≤ room_for worker.requests
  pub said : records_in worker.out ≡ []
  pub records : bound ≤ room_of worker.out

-- .. each of these workers, of all threads in order, for its thread's bound
pub record AreEquipped (bounds : List ℕ) (passes : List SharedPass) (workers : List Worker) : Type 0 where
  pub many : length workers ≡ length passes
  pub each : (i : ℕ) (d : SharedPass) (e : Worker) → i < length workers → IsEquipped (get_or passes i d) (slice_index bounds (suc i)) (get_or workers i e)

-- The scavenger has this pass, a place for the outcome of each page, and room for so many records, of which there are none. No thread is lent to it.
pub record IsSupplied (f : Profile) (pass : SharedPass) (bound : ℕ) (scavenger : Scavenger) : Type 0 where
  pub present : scavenger.pass ≡ Some pass
  pub places : places_of scavenger.outcomes ≡ f.pages
  pub said : records_in scavenger.out ≡ []
  pub records : bound ≤ room_of scavenger.out
  pub none : scavenger.lent.items ≡ []

-- no name stands for a block, and there is room for all names of the plan
pub record IsBookOf (plan : Plan) (book : NameBook) : Type 0 where
  pub no_name : (name : ℕ) → block_named book.names name ≡ None
  pub names : AllBelow (names_held book.names) (phases_of plan)

-- the keeper of thread k has this pass, a book without a guard, with a place for each guarded request of its thread, and room for what it may say
pub record IsKeeperFor (plan : Plan) (k : ℕ) (pass : SharedPass) (keeper : Option Keeper) : Type 0 where
  pub there : Keeper
  pub present : keeper ≡ Some there
  pub pass_is : there.pass ≡ pass
  pub empty : guards_in there.book ≡ []
  pub places : size_of_book there.book ≡ guarded_of k (operations_of plan)
  pub said : records_in there.out ≡ []
  pub records : slice_index (bounds_of plan.bounds) (threads_of plan + k) + 2 * guarded_of k (operations_of plan) ≤ room_of there.out

-- how many records a keeper with this bound may make in the end: for its events, and two for each guarded request of its thread, as far as they can be counted
abbrev pub most_records : ℕ → ℕ
most_records bound = min (bound * 2) (2 ^ 32 - 1)

-- The keeper has the first of these passes and of these books, and room for so many records, of which there are none. These are left. None where there is no pass.
abbrev pub TakesKeeper : (passes passes' : List SharedPass) (books books' : List GuardBook) (bound : ℕ) → Option Keeper → Type 0
TakesKeeper passes passes' books books' bound None = (passes ≡ []) × (passes' ≡ []) × (books ≡ []) × (books' ≡ [])
TakesKeeper passes passes' books books' bound (Some keeper) =
    (passes ≡ keeper.pass ∷ passes') × (books ≡ keeper.book ∷ books') × (records_in keeper.out ≡ []) × (bound ≤ room_of keeper.out)

-- .. those at this place
abbrev pub IsKeptBy : (passes : List SharedPass) (books : List GuardBook) (bound i : ℕ) → Option Keeper → Type 0
IsKeptBy passes books bound i keeper = TakesKeeper (drop i passes) (drop (i + 1) passes) (drop i books) (drop (i + 1) books) bound keeper

-- so are the keepers of these workers, behind so many threads
pub record AreKeptBy (bounds : List ℕ) (threads : ℕ) (passes : List SharedPass) (books : List GuardBook) (workers : List Worker) : Type 0 where
  pub each : (i : ℕ) (d : Worker) → i < length workers
      → IsKeptBy passes books (most_records (slice_index bounds (threads + suc i))) i (get_or workers i d).keeper

-- the worker with this keeper
abbrev pub with_keeper : Worker → Option Keeper → Worker
with_keeper w keeper = record { pass = w.pass; cache = w.cache; requests = w.requests; out = w.out; keeper = keeper; member = w.member; bench = w.bench }

-- each worker has a keeper, by these passes in order; or none has one, and there is no pass
abbrev pub HaveKeepers : Plan → List SharedPass → List Worker → Type 0
HaveKeepers plan passes workers =
    (length passes ≡ keepers_of plan) × AreGuarded (keepers_of plan) workers
    × ((i : ℕ) (d : SharedPass) (e : Worker) → i < keepers_of plan → IsKeeperFor plan (suc i) (slice_index_or passes i d) (get_or workers i e).keeper)

-- a team that did nothing yet, whose actors have these passes: the threads, and behind them the keepers
pub record IsTeamOf (plan : Plan) (first : SharedPass) (others kept : List SharedPass) (team : Team) : Type 0 where
  pub scavenger : IsSupplied (region_of plan) first (slice_index (bounds_of plan.bounds) 0) team.scavenger
  pub workers : AreEquipped (bounds_of plan.bounds) others team.threads.items
  pub keepers : HaveKeepers plan kept team.threads.items
  pub book : IsBookOf plan team.book
  pub places : HasPlaces (threads_of plan) team

-- ---- the kit
pub record IsKitOf (plan : Plan) (kit : SharedKit) : Type 0 where
  pub profile : profile_of kit.region ≡ region_of plan
  pub first : SharedPass
  pub others : List SharedPass
  pub kept : List SharedPass
  pub many : length others ≡ threads_of plan
  pub unused : AreNew kit.region (bounds_of plan.bounds) (first ∷ (others ++ kept))
  pub team : IsTeamOf plan first others kept kit.team
  pub none : kit.passes.items ≡ []
  pub place : actors_of plan < vec_capacity kit.passes

-- ---- at the end
-- the pass in this slot, if there is one
abbrev pub pass_in : Option SharedPass → List SharedPass
pass_in None = []
pass_in (Some pass) = pass ∷ []

-- that of a worker's keeper, if it has one
abbrev pub kept_pass : Option Keeper → List SharedPass
kept_pass None = []
kept_pass (Some keeper) = keeper.pass ∷ []

-- those of a worker: that of its thread, and that of its keeper behind it
abbrev pub own_passes : Worker → List SharedPass
own_passes worker = pass_in worker.pass ++ kept_pass worker.keeper

-- .. of all these workers
abbrev pub passes_in : List Worker → List SharedPass
passes_in [] = []
passes_in (w ∷ ws) = own_passes w ++ passes_in ws

-- .. and of all actors, from the scavenger on
abbrev pub passes_with : Team → List SharedPass
passes_with team = pass_in team.scavenger.pass ++ passes_in team.threads.items
