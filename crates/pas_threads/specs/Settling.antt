-- What stands in a ledger once it was settled, and what it heard of.
use Rattle.std.specs.Prelude.{ℕ, suc, ◌+◌, ◌<◌, ◌≡◌, List, length, get_or, Option, None, Some}
use Rattle.pas_steps.specs.Lists.{Whole, part}
use Rattle.pas_shared.specs.{Ruled.{AreEarlier, IsEarlier, HasAllOf, bases_in}, Passes.{seat_of, view_of, IsPassOf}, Benches.{rows_on, IsBenchOf}}
use Rattle.pas_shared.specs.{Ledgers.{so_far, looks_of, actors_in}, declared.{bench.Bench.Bench, ledger.Ledger.Ledger, pass.SharedPass.SharedPass}}
use Rattle.pas_shared.specs.declared.region.SharedRegion.{SharedRegion}
use Rattle.pas_threads.specs.{Hands.HasPass, Pairs.{AreGuarded, IsKeeperOf}, Sessions.{Session, IsOfActors}, declared.keeper.Keeper.Keeper}
use Rattle.pas_threads.specs.declared.workers.Worker.{Worker}

-- ---- settling
-- It is the ledger of the same region, with the same actors, and what it saw are the first steps of those that stand there now. Those of its actors are all there.
pub record Settled (old new : Ledger) : Type 0 where
  pub table : new.seat.table_id ≡ old.seat.table_id
  pub actors : actors_in new ≡ actors_in old
  pub earlier : IsEarlier (so_far old) (so_far new)
  pub each : AreEarlier (looks_of old) (so_far new)
  pub all : HasAllOf (actors_in old) (so_far new)

-- the list has of the actor of the pass just its own steps
abbrev pub StandsIn : Whole → SharedPass → Type 0
StandsIn l pass = part (seat_of pass).actor l ≡ view_of pass

-- .. of the keeper, if it is there
abbrev pub KeeperStandsIn : Whole → Option Keeper → Type 0
KeeperStandsIn l None = Unit {0}
KeeperStandsIn l (Some keeper) = StandsIn l keeper.pass

-- .. of both actors of the worker
abbrev pub WorkerStandsIn : Whole → Worker → Type 0
WorkerStandsIn l worker = ((pass : SharedPass) → worker.pass ≡ Some pass → StandsIn l pass) × KeeperStandsIn l worker.keeper

-- both have their passes, which are of the region
abbrev pub IsUp : SharedRegion → Worker → Type 0
IsUp region worker = HasPass region worker.pass × IsKeeperOf region worker.keeper

-- ---- all actors at rest
-- actor k has its pass, and what it made is its part of the list
pub record PassStands (region : SharedRegion) (k : ℕ) (l : Whole) (slot : Option SharedPass) : Type 0 where
  pub pass : SharedPass
  pub present : slot ≡ Some pass
  pub of : IsPassOf region pass
  pub actor : (seat_of pass).actor ≡ k
  pub made : view_of pass ≡ part k l

-- So it is of all actors: the scavenger, which has the slot, and those of the workers. Nobody else has a part in the list.
pub record ActorsStand (region : SharedRegion) (s : Session) (slot : Option SharedPass) (workers : List Worker) (l : Whole) : Type 0 where
  pub many : length workers ≡ s.threads
  pub guarded : AreGuarded s.keepers workers
  pub scavenger : PassStands region 0 l slot
  pub threads : (i : ℕ) (d : Worker) → i < length workers → PassStands region (suc i) l (get_or workers i d).pass
  pub keepers : (i : ℕ) (d : Worker) (keeper : Keeper) → i < length workers → (get_or workers i d).keeper ≡ Some keeper
      → PassStands region (s.threads + suc i) l (Some keeper.pass)
  pub nobody : IsOfActors s l

-- ---- hearing
-- a list that begins with all that the new ledger saw begins with all that the old one saw
abbrev pub SawMore : Ledger → Ledger → Type 0
SawMore old new = (l : Whole) → AreEarlier (looks_of new) l → AreEarlier (looks_of old) l

-- .. begins with what the bench in this slot saw
abbrev pub HasHeard : Ledger → Option Bench → Type 0
HasHeard ledger slot = (bench : Bench) → slot ≡ Some bench → (l : Whole) → AreEarlier (looks_of ledger) l → AreEarlier (bases_in (rows_on bench)) l

-- a bench of the region is there
pub record HasBench (region : SharedRegion) (slot : Option Bench) : Type 0 where
  pub bench : Bench
  pub present : slot ≡ Some bench
  pub of : IsBenchOf region bench

-- the worker with this in place of its bench
abbrev pub with_bench : Worker → Option Bench → Worker
with_bench w bench = record { pass = w.pass; cache = w.cache; requests = w.requests; out = w.out; keeper = w.keeper; member = w.member; bench = bench }

-- nothing of the worker but its bench changed
abbrev pub IsButBench : Worker → Worker → Type 0
IsButBench old new = new ≡ with_bench old new.bench
