-- How workers take turns, one after the other: threads read the epoch before a phase; and what is gathered of them.
use Rattle.std.specs.Prelude.{ℕ, suc, ◌+◌, ◌<◌, ◌≤◌, ◌≡◌, ◌≢◌, List, [], ◌∷◌, ◌++◌, length, get_or, map, Option, None, Some}
use Rattle.pas_bits.specs.declared.mask.Mask4.{Mask4}
use Rattle.pas_profile.specs.declared.profile.Profile.{Profile}
use Rattle.pas_steps.specs.Lists.{part}
use Rattle.pas_cache.specs.Caches.{cached}
use Rattle.pas_shared.specs.declared.region.SharedRegion.{SharedRegion}
use Rattle.pas_trace.specs.Acts.{Act, Wakes}
use Rattle.pas_answers.specs.{Answers.Progress, Calls.owed_events, Ways.records_by, Reaching.Reaches}
use Rattle.pas_acts.specs.{Awake.awake_in, AtDesks.{here, ThreadActs}, Works.Later}
use Rattle.pas_threads.specs.{Hands.Did, Sessions.{evenly, WorkerHas}, Pairs.{said_by_keeper, IsButKeeper}, declared.keeper.Keeper.Keeper}
use Rattle.pas_threads.specs.declared.workers.Worker.{Worker}
use Rattle.pas_records.specs.{Rooms.{records_in, room_of, Records}, declared.record.Record.Record}

-- ---- what acts come to
-- how far these acts brought a replay from p, and what was said by them
pub record Came (f : Profile) (acts : List Act) (p : Progress) : Type 0 where
  pub reached : Progress
  pub reaches : Reaches f acts p reached
  pub said : List Record
  pub records_are : reached.records ≡ p.records ++ said

-- what actor k said of these came to the end of its records
pub record Pushed (k : ℕ) (said : List Record) (out out' : Records) : Type 0 where
  pub added : records_in out' ≡ records_in out ++ records_by k said
  pub room : room_of out' ≡ room_of out

-- .. of those of its worker, whose requests and keeper are as they were
pub record Told (k : ℕ) (said : List Record) (old new : Worker) : Type 0 where
  pub out : Pushed k said old.out new.out
  pub requests : new.requests ≡ old.requests
  pub keeper : new.keeper ≡ old.keeper

-- actor k took no part in what was done from p to q, when this was said: it made no step, and nothing of it is its own
pub record TookNoPart (k : ℕ) (said : List Record) (p q : Progress) : Type 0 where
  pub part_is : part k q.list ≡ part k p.list
  pub silent : records_by k said ≡ []

-- the worker did this act of its thread, with its pass, and has it again; `told` is said besides
pub record Turn (region : SharedRegion) (f : Profile) (k : ℕ) (act : Act) (told : List Record) (old new : Worker) (later : Later) (p : Progress) : Type 0 where
  pub did : Did region old.pass new.pass (λ σ σ'. ThreadActs f k (act ∷ []) [] told (here σ (cached old.cache) old.out)
      (here σ' (cached new.cache) new.out) later p)
  pub requests : new.requests ≡ old.requests
  pub keeper : new.keeper ≡ old.keeper

-- ---- workers in a row, one turn each or none
-- so many places are of threads, each of another one
pub record AreDistinct (number : ℕ → ℕ) (places : ℕ) : Type 0 where
  pub threads : (i : ℕ) → i < places → 0 ≢ number i
  pub apart : (i j : ℕ) → i < places → j < places → i ≢ j → number i ≢ number j

-- Nobody but the actors of so many places made a step, and of what was said nothing is of anybody but them and the scavenger. What names stand for and the
-- epoch that the scavenger read are as they were.
pub record LeavesOthers (number : ℕ → ℕ) (places : ℕ) (said : List Record) (p q : Progress) : Type 0 where
  pub parts : (k : ℕ) → ((i : ℕ) → i < places → number i ≢ k) → part k q.list ≡ part k p.list
  pub silent : (k : ℕ) → 0 ≢ k → ((i : ℕ) → i < places → number i ≢ k) → records_by k said ≡ []
  pub names : q.names ≡ p.names
  pub books : q.books ≡ p.books
  pub epoch : q.epoch ≡ p.epoch

-- These acts were done by workers of the row, of which that at place i is of actor `number i`. Each stands then, which is what `Stands` says of it.
pub record TookTurns (f : Profile) (number : ℕ → ℕ) (Stands : ℕ → Worker → Progress → Type 0) (acts : List Act) (old new : List Worker) (p : Progress) : Type 0 where
  pub came : Came f acts p
  pub stand : (i : ℕ) (d : Worker) → i < length old → Stands i (get_or new i d) came.reached
  pub told : (i : ℕ) (d : Worker) → i < length old → Told (number i) came.said (get_or old i d) (get_or new i d)
  pub leaves : LeavesOthers number (length old) came.said p came.reached

-- ---- the threads, from thread 1 on
-- what a thread owes
abbrev pub owed_at : Profile → ℕ → Progress → ℕ
owed_at f k p = owed_events f (p.caches k) (part k p.list)

-- the worker of the thread at this place has its pass; what it owed at p pays for what it said and wasn't gathered, with what it owes now
pub record IsDue (region : SharedRegion) (f : Profile) (later : ℕ → ℕ) (p : Progress) (i : ℕ) (worker : Worker) (now : Progress) : Type 0 where
  pub here : WorkerHas region f (suc i) worker (evenly (later (suc i))) now
  pub paid : length (records_in worker.out) + owed_at f (suc i) now ≤ owed_at f (suc i) p

-- these threads read the epoch, and nothing was said
pub record Woke (region : SharedRegion) (f : Profile) (acts : List Act) (old new : List Worker) (later : ℕ → ℕ) (p : Progress) : Type 0 where
  pub turns : TookTurns f suc (IsDue region f later p) acts old new p
  pub silent : turns.came.said ≡ []

-- .. those of the mask, in order
abbrev pub WokeAll : SharedRegion → Profile → Mask4 → List Worker → List Worker → (ℕ → ℕ) → Progress → Type 0
WokeAll region f awake old new later p = Woke region f (map Wakes (awake_in awake (length old))) old new later p

-- ---- what is gathered
-- what these workers said, one after the other, where each says so
abbrev pub said_by : (Worker → List Record) → List Worker → List Record
said_by says [] = []
said_by says (w ∷ ws) = says w ++ said_by says ws

-- for their threads
abbrev pub said_own : Worker → List Record
said_own w = records_in w.out

abbrev pub said_by_all : List Worker → List Record
said_by_all workers = said_by said_own workers

-- .. and for their keepers
abbrev pub said_kept : Worker → List Record
said_kept w = said_by_keeper w.keeper

abbrev pub said_by_keepers : List Worker → List Record
said_by_keepers workers = said_by said_kept workers

-- what the worker said for its thread was gathered, and nothing else of it changed
pub record IsOwnGathered (old new : Worker) : Type 0 where
  pub pass : new.pass ≡ old.pass
  pub cache : new.cache ≡ old.cache
  pub requests : new.requests ≡ old.requests
  pub none : records_in new.out ≡ []
  pub room : room_of new.out ≡ room_of old.out
  pub keeper : new.keeper ≡ old.keeper

-- what a keeper said was gathered, and nothing else of it changed
abbrev pub HasSaid : Option Keeper → Option Keeper → Type 0
HasSaid None None = Unit {0}
HasSaid None (Some new) = ⊥
HasSaid (Some old) None = ⊥
HasSaid (Some old) (Some new) = (new.pass ≡ old.pass) × (new.book ≡ old.book) × (records_in new.out ≡ []) × (room_of new.out ≡ room_of old.out)

-- what the worker said for its keeper was gathered, and nothing else of it changed
pub record IsKeptGathered (old new : Worker) : Type 0 where
  pub but : IsButKeeper old new
  pub keeper : HasSaid old.keeper new.keeper

-- .. for both
pub record IsGathered (old new : Worker) : Type 0 where
  pub pass : new.pass ≡ old.pass
  pub cache : new.cache ≡ old.cache
  pub requests : new.requests ≡ old.requests
  pub none : records_in new.out ≡ []
  pub room : room_of new.out ≡ room_of old.out
  pub keeper : HasSaid old.keeper new.keeper

-- All that these workers said came to the end of the records, for their threads and then for their keepers.
pub record WereGathered (old new : List Worker) (out out' : Records) : Type 0 where
  pub added : records_in out' ≡ records_in out ++ (said_by_all old ++ said_by_keepers old)
  pub size : room_of out' ≡ room_of out
  pub each : (i : ℕ) (d : Worker) → i < length old → IsGathered (get_or old i d) (get_or new i d)
  pub many : length new ≡ length old
