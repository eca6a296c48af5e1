-- A worker with two actors: a thread, and in a guarded replay its keeper, which is the actor that stands as far behind all threads as the thread stands among
-- them.
use Rattle.std.specs.Prelude.{ℕ, map, ◌+◌, ◌<◌, ◌≤◌, ◌≡◌, List, [], length, Option, None, Some, get_or, Bool, if◌then◌else◌, is_some}
use Rattle.pas_profile.specs.declared.profile.Profile.{Profile}
use Rattle.pas_steps.specs.Lists.{part}
use Rattle.pas_guard.specs.Books.{guards_in}
use Rattle.pas_shared.specs.{Passes.IsPassOf, declared.{bench.Bench.Bench, region.SharedRegion.SharedRegion}}
use Rattle.pas_trace.specs.{Acts.{Act, own_acts}, declared.plan.Op.Op}
use Rattle.pas_answers.specs.{Answers.Progress, Keeping.owed_by_keeper}
use Rattle.pas_acts.specs.{Keepers.{LaterKept, Keeping, NoKeeper, OneKeeper, KeeperAt, KeeperLowers, keeper_has}, Pairs.{KeeperWaits, PairWorks}, Works.Later}
use Rattle.pas_acts.specs.declared.names.NameBook.{NameBook}
use Rattle.pas_threads.specs.{Left.{pair_in, standing_beside, HasLeft}, Hands.{standing_of_pass, kept_by, WorkerAt, Did}, declared.keeper.Keeper.Keeper}
use Rattle.pas_threads.specs.declared.{keeper.{Seated.Seated, Beside.Beside}, workers.Worker.Worker}
use Rattle.pas_records.specs.{Rooms.records_in, declared.record.Record.Record}

-- ---- the keeper of a worker
-- what it has in hand while it doesn't sit at the region
abbrev pub kept_by_worker : Option Keeper → Keeping
kept_by_worker None = NoKeeper
kept_by_worker (Some keeper) = OneKeeper (keeper_has (standing_of_pass keeper.pass) keeper.book keeper.out)

-- .. while it sits on its thread's bench
abbrev pub kept_seated : SharedRegion → Bench → Option Seated → Keeping
kept_seated region bench None = NoKeeper
kept_seated region bench (Some seated) = OneKeeper (keeper_has (standing_beside region bench seated.member) seated.book seated.out)

abbrev pub kept_beside : SharedRegion → Bench → Beside → Keeping
kept_beside region bench beside = kept_seated region bench beside.keeper

-- its pass is one of the region
abbrev pub IsKeeperOf : SharedRegion → Option Keeper → Type 0
IsKeeperOf region None = Unit {0}
IsKeeperOf region (Some keeper) = IsPassOf region keeper.pass

-- it stands where the replay came as far as p
pub record KeeperStands (region : SharedRegion) (f : Profile) (actor : ℕ) (keeper : Keeper) (later : LaterKept) (p : Progress) : Type 0 where
  pub of : IsPassOf region keeper.pass
  pub at : KeeperAt f actor (keeper_has (standing_of_pass keeper.pass) keeper.book keeper.out) later p

-- it lowered all its guards, and has its pass again
pub record KeeperLowered (region : SharedRegion) (f : Profile) (actor : ℕ) (old new : Keeper) (later : LaterKept) (p : Progress) : Type 0 where
  pub of : IsPassOf region new.pass
  pub did : KeeperLowers f actor (keeper_has (standing_of_pass old.pass) old.book old.out) (keeper_has (standing_of_pass new.pass) new.book new.out) later p

-- ---- both actors of a worker, in a phase, where so many threads are the first actors
pub record PairStands (region : SharedRegion) (book : NameBook) (f : Profile) (threads k : ℕ) (acts : List Act) (worker : Worker) (later : Later) (more : LaterKept) (p : Progress) : Type 0 where
  pub thread : WorkerAt region book f k acts worker later p
  pub of : IsKeeperOf region worker.keeper
  pub waits : KeeperWaits f (threads + k) acts (kept_by_worker worker.keeper) more p

-- what a worker did with its thread and its keeper, which have their passes again, and the bench that it left
pub record PairDid (region : SharedRegion) (book : NameBook) (f : Profile) (threads k : ℕ) (acts : List Act) (old new : Worker) (later : Later) (more : LaterKept) (p : Progress) : Type 0 where
  pub did : Did region old.pass new.pass (λ σ σ'. PairWorks f k (threads + k) acts [] σ σ' (kept_by book old) (kept_by book new) (kept_by_worker old.keeper)
      (kept_by_worker new.keeper) later more p)
  pub of : IsKeeperOf region new.keeper
  pub left : HasLeft region new.bench (pair_in threads k old.keeper) p.list did.does.reached.list

-- the worker's acts of its operations in a phase were done, wherever the replay stood
pub record DidPhase (region : SharedRegion) (book : NameBook) (ops : List Op) (old new : Worker) : Type 0 where
  pub did : (f : Profile) (threads k : ℕ) (later : Later) (more : LaterKept) (p : Progress) → 1 ≤ threads
      → PairStands region book f threads k (own_acts k ops) old later more p
      → PairDid region book f threads k (own_acts k ops) old new later more p

-- .. of each of these workers
abbrev pub DidPhases : SharedRegion → NameBook → List Op → List Worker → List Worker → Type 0
DidPhases region book ops old new = (i : ℕ) (d : Worker) → i < length old → DidPhase region book ops (get_or old i d) (get_or new i d)

-- the operations of this worker's thread in the phase can be done
pub record MayDoPhase (region : SharedRegion) (book : NameBook) (ops : List Op) (worker : Worker) : Type 0 where
  pub profile : Profile
  pub threads : ℕ
  pub thread : ℕ
  pub later : Later
  pub more : LaterKept
  pub progress : Progress
  pub some : 1 ≤ threads
  pub stands : PairStands region book profile threads thread (own_acts thread ops) worker later more progress

-- ---- between two phases
-- nothing that it said wasn't gathered
abbrev pub IsSilent : Option Keeper → Type 0
IsSilent None = Unit {0}
IsSilent (Some keeper) = records_in keeper.out ≡ []

-- room for no more
abbrev pub no_more : LaterKept
no_more = record { events = 0; records = 0; guards = 0 }

-- A keeper rests with room for the guarded requests among these acts of its thread.
pub record KeeperRests (region : SharedRegion) (f : Profile) (actor : ℕ) (acts : List Act) (keeper : Option Keeper) (p : Progress) : Type 0 where
  pub of : IsKeeperOf region keeper
  pub waits : KeeperWaits f actor acts (kept_by_worker keeper) no_more p
  pub silent : IsSilent keeper

-- what the keeper said
abbrev pub said_by_keeper : Option Keeper → List Record
said_by_keeper None = []
said_by_keeper (Some keeper) = records_in keeper.out

-- what the keeper of this number owes, if there is one
abbrev pub owed_kept : Profile → ℕ → Option Keeper → Progress → ℕ
owed_kept f actor None p = 0
owed_kept f actor (Some keeper) p = owed_by_keeper f (guards_in keeper.book) (part actor p.list)

-- the keeper of the worker at this place
abbrev pub keeper_at : List Worker → ℕ → Option Keeper
keeper_at workers i = get_or (map (λ (worker : Worker). worker.keeper) workers) i None

-- each of these workers has a keeper, or none has
abbrev pub HasKeeper : Worker → Type 0
HasKeeper worker = (keeper : Keeper) × (worker.keeper ≡ Some keeper)

abbrev pub AreGuarded : ℕ → List Worker → Type 0
AreGuarded keepers workers =
    (guarded : Bool) × (keepers ≡ (if guarded then length workers else 0))
    × ((i : ℕ) (d : Worker) → i < length workers → is_some (get_or workers i d).keeper ≡ guarded)

-- ---- the close
-- no guard is up
abbrev pub IsLow : Option Keeper → Type 0
IsLow None = Unit {0}
IsLow (Some keeper) = guards_in keeper.book ≡ []

-- nothing of the worker but its keeper changed
pub record IsButKeeper (old new : Worker) : Type 0 where
  pub pass : new.pass ≡ old.pass
  pub cache : new.cache ≡ old.cache
  pub requests : new.requests ≡ old.requests
  pub out : new.out ≡ old.out
