-- What stands between two phases of a replay on threads.
use Rattle.std.specs.Prelude.{ℕ, zero, suc, ◌+◌, ◌<◌, ◌≤◌, ◌≡◌, ◌^◌, true, List, [], ◌∷◌, ◌++◌, map, length, get_or, vec_capacity}
use Rattle.pas_profile.specs.declared.profile.Profile.{Profile}
use Rattle.pas_steps.specs.Lists.{Whole, part}
use Rattle.pas_trace.specs.{EveryPlan.{all_ops, own_records, records_of_ops}, EveryPhase.FreeTheirOwn, declared.plan.Op.Op, Acts.{Act, Ends, Lowers, is_active}}
use Rattle.pas_trace.specs.Acts.{numbers_from, own_acts, acts_of, phase_acts}
use Rattle.pas_records.specs.{Rooms.{records_in, room_of, Records}, declared.record.Record.Record}
use Rattle.pas_utility.specs.Outcomes.{places_of}
use Rattle.pas_cache.specs.Caches.{cached}
use Rattle.pas_shared.specs.{Ruled.IsEarlier, declared.region.SharedRegion.SharedRegion}
use Rattle.pas_answers.specs.{Replays.at_start, Answers.Progress, Calls.owed_events, Reaching.Reaches, Phases.AreInPhases, Stages.{Stage, one_by_one}}
use Rattle.pas_answers.specs.{Stages.{phase_stages, stages_of, GoByStages}, Ways.{OnThreads, arranged, by_actors, AreSpoken}}
use Rattle.pas_acts.specs.{Shares.AreKeptBehind, Works.Later, Turns.RestsAt, NameBooks.{NamesAt, requests_in, room_for}}
use Rattle.pas_threads.specs.{Hands.{standing_of_pass, HasPass, ScavengerAt}, Pairs.{KeeperRests, AreGuarded, owed_kept, keeper_at, IsLow}}
use Rattle.pas_threads.specs.declared.{workers.Worker.Worker, scavenger.Scavenger.Scavenger, phases.Team.Team}

-- what a replay on threads goes by: the profile of its region, how many threads make the operations, and how many keepers stand behind them
pub record Session : Type 0 where
  pub profile : Profile
  pub threads : ℕ
  pub keepers : ℕ

-- how many actors its region has: its threads, its keepers, and what places the region has besides
abbrev pub actors : Session → ℕ
actors s = s.profile.threads

-- .. with just its threads, by which the operations of a plan are counted
abbrev pub planned : Session → Profile
planned s = record s.profile { threads = s.threads }

-- ---- the workers
-- room for so many events and as many records
abbrev pub evenly : ℕ → Later
evenly n = record { events = n; records = n }

-- The worker of thread k has its pass, and with it rests where the replay came as far as p, with room for what it owes and for so much later.
pub record WorkerHas (region : SharedRegion) (f : Profile) (k : ℕ) (worker : Worker) (later : Later) (p : Progress) : Type 0 where
  pub has : HasPass region worker.pass
  pub rests : RestsAt f k (standing_of_pass has.pass) (cached worker.cache) worker.out later p

-- .. nothing is said or asked that wasn't gathered, and there is room for the requests that the thread may make later
pub record WorkerRests (region : SharedRegion) (f : Profile) (k : ℕ) (worker : Worker) (later : ℕ) (p : Progress) : Type 0 where
  pub here : WorkerHas region f k worker (evenly later) p
  pub said : records_in worker.out ≡ []
  pub asked : requests_in worker.requests ≡ []
  pub requests : later ≤ room_for worker.requests

-- .. each of these workers, of the threads from 1 on
abbrev pub AreResting : SharedRegion → Profile → List Worker → (ℕ → ℕ) → Progress → Type 0
AreResting region f workers later p = (i : ℕ) (d : Worker) → i < length workers → WorkerRests region f (suc i) (get_or workers i d) (later (suc i)) p

-- the scavenger has its pass, nothing that it said wasn't gathered, and no thread is lent to it
pub record ScavengerRests (region : SharedRegion) (f : Profile) (scavenger : Scavenger) (later : ℕ) (p : Progress) : Type 0 where
  pub has : HasPass region scavenger.pass
  pub at : ScavengerAt f [] (standing_of_pass has.pass) (places_of scavenger.outcomes) scavenger.out (evenly later) p
  pub said : records_in scavenger.out ≡ []
  pub none : scavenger.lent.items ≡ []

-- ---- the team
-- There is a place for each of so many threads wherever a worker may stand: among the threads, the hands, which are none, and those that are lent.
abbrev pub HasPlaces : ℕ → Team → Type 0
HasPlaces threads team =
    (threads ≤ vec_capacity team.threads) × (threads < vec_capacity team.hands) × (threads ≤ vec_capacity team.scavenger.lent) × (team.hands.items ≡ [])

-- These phases can be replayed: there are as many actors as the region takes, and few operations, each of a thread with its keeper behind it.
pub record ArePhases (s : Session) (phases : List (List Op)) : Type 0 where
  pub fits : s.threads + s.keepers ≤ actors s
  pub few_threads : s.threads ≤ 16
  pub few : length (all_ops phases) < 2 ^ 32
  pub within : (k : ℕ) → is_active (all_ops phases) k ≡ true → k ≤ s.threads
  pub behind : AreKeptBehind s.threads (all_ops phases)

-- The workers of all threads rest where the replay came as far as p, with room for these operations of their threads. Their keepers do so, if there are any.
pub record WorkersRest (region : SharedRegion) (s : Session) (ops : List Op) (workers : List Worker) (p : Progress) : Type 0 where
  pub many : length workers ≡ s.threads
  pub threads : AreResting region s.profile workers (λ k. own_records (planned s) k ops) p
  pub guarded : AreGuarded s.keepers workers
  pub kept : (i : ℕ) (d : Worker) → i < length workers
      → KeeperRests region s.profile (s.threads + suc i) (own_acts (suc i) ops) (get_or workers i d).keeper p

-- The team stands where the replay came as far as p, and the phases are left. Their operations are of its threads.
pub record TeamAt (region : SharedRegion) (s : Session) (phases : List (List Op)) (team : Team) (p : Progress) : Type 0 where
  pub fit : ArePhases s phases
  pub workers : WorkersRest region s (all_ops phases) team.threads.items p
  pub scavenger : ScavengerRests region s.profile team.scavenger (own_records (planned s) 0 (all_ops phases)) p
  pub nobody : (k : ℕ) → s.threads + s.keepers < k → part k p.list ≡ []
  pub names : NamesAt s.profile (all_ops phases) team.book p
  pub frees : FreeTheirOwn names.asked phases
  pub places : HasPlaces s.threads team

-- ---- the records
-- The records end with a mark, or there are none yet, and they are written so: what comes after them is arranged by itself.
abbrev pub AreMarked : Session → List Record → List Record → Type 0
AreMarked s records written = (more : List Record) → arranged OnThreads (actors s) (records ++ more) ≡ written ++ arranged OnThreads (actors s) more

-- The records of a phase follow such records, and are written actor by actor.
pub record AreWritten (s : Session) (records written : List Record) : Type 0 where
  pub before : List Record
  pub before_written : List Record
  pub said : List Record
  pub marked : AreMarked s before before_written
  pub spoken : AreSpoken said
  pub records_are : records ≡ before ++ said
  pub written_are : written ≡ before_written ++ by_actors 0 (actors s + 1) said

-- the events that the first n threads owe, and their keepers, which these workers have
abbrev pub owed_by : Session → List Worker → Progress → ℕ → ℕ
owed_by s workers p zero = 0
owed_by s workers p (suc n) =
    owed_events s.profile (p.caches (suc n)) (part (suc n) p.list) + owed_kept s.profile (s.threads + suc n) (keeper_at workers n) p + owed_by s workers p n

-- There is room for the records that the operations of the phases that are left may make, for those of `marks` marks, and for what the threads and their
-- keepers owe.
abbrev pub HasRoom : Session → List (List Op) → ℕ → List Worker → Records → Progress → Type 0
HasRoom s phases marks workers out p =
    length (records_in out) + (owed_by s workers p s.threads + records_of_ops (planned s) (all_ops phases) + marks) ≤ room_of out

-- ---- one phase
-- The operations of a phase come next, and then those of the phases after it. The records so far end with a mark and are written.
pub record PhaseAt (region : SharedRegion) (s : Session) (ops : List Op) (rest : List (List Op)) (marks : ℕ) (team : Team) (out : Records) (p : Progress) : Type 0 where
  pub team_at : TeamAt region s (ops ∷ rest) team p
  pub marked : AreMarked s p.records (records_in out)
  pub room : HasRoom s (ops ∷ rest) marks team.threads.items out p

-- nobody but the threads, the keepers and the scavenger has a part in the list
abbrev pub IsOfActors : Session → Whole → Type 0
IsOfActors s whole = (k : ℕ) → s.threads + s.keepers < k → part k whole ≡ []

-- the list has of each of the actors the same part as what is told of them
abbrev pub StandSo : Session → Whole → Whole → Type 0
StandSo s so_far told = (k : ℕ) → k ≤ s.threads + s.keepers → part k so_far ≡ part k told

-- The acts of these stages took a replay from p to q, and the list of all actors' steps from what stood there to what stands there: what is told of each actor stands in it,
-- and nobody else did anything. Where nobody else did in the list either, it goes by these stages.
pub record WentBy (s : Session) (stages : List Stage) (p q : Progress) (before after : Whole) : Type 0 where
  pub earlier : IsEarlier before after
  pub stand : StandSo s after q.list
  pub nobody : IsOfActors s q.list
  pub by_stages : IsOfActors s after → GoByStages s.profile stages p q before after

-- its acts were answered, stage by stage, and its records are written
pub record PhaseDone (region : SharedRegion) (s : Session) (ops : List Op) (rest : List (List Op)) (marks : ℕ) (team : Team) (out out' : Records) (before after : Whole) (p : Progress) : Type 0 where
  pub reached : Progress
  pub reaches : Reaches s.profile (phase_acts s.threads ops) p reached
  pub team_at : TeamAt region s rest team reached
  pub written : AreWritten s reached.records (records_in out')
  pub room : HasRoom s rest marks team.threads.items out' reached
  pub size : room_of out' ≡ room_of out
  pub went : WentBy s (phase_stages s.threads ops) p reached before after

-- ---- the close
-- its acts behind its mark: of so many threads, and then of so many keepers behind them
abbrev pub closing_acts : ℕ → ℕ → List Act
closing_acts threads keepers = map Ends (numbers_from 1 threads) ++ map Lowers (numbers_from (threads + 1) keepers)

-- The threads were stopped and the keepers lowered their guards, after the mark of the close, what they said is written, no cache has a local allocator, and
-- no guard is up. Each of these acts is a stage.
pub record CloseDone (region : SharedRegion) (s : Session) (team : Team) (written : List Record) (before after : Whole) (p : Progress) : Type 0 where
  pub reached : Progress
  pub reaches : Reaches s.profile (closing_acts s.threads s.keepers) p reached
  pub team_at : TeamAt region s [] team reached
  pub written_so : AreWritten s reached.records written
  pub empty : (i : ℕ) (d : Worker) → i < length team.threads.items → (cached (get_or team.threads.items i d).cache).locals ≡ []
  pub low : (i : ℕ) (d : Worker) → i < length team.threads.items → IsLow (get_or team.threads.items i d).keeper
  pub went : WentBy s (one_by_one (closing_acts s.threads s.keepers)) p reached before after

-- ---- the whole replay
-- All phases and the close were replayed: their acts are answered, the records are written phase by phase and actor by actor, the team stands at the end, and
-- no cache has a local allocator. Each list of these actors that begins with these steps is in phases; and of each actor these steps are all, so that it goes by the stages.
pub record HasReplayed (region : SharedRegion) (s : Session) (phases : List (List Op)) (so_far : Whole) (team : Team) (written : List Record) : Type 0 where
  pub end : Progress
  pub answers : Reaches s.profile (acts_of s.threads s.keepers phases) at_start end
  pub stands : TeamAt region s [] team end
  pub went : WentBy s (stages_of s.threads s.keepers phases) at_start end [] so_far
  pub in_phases : (whole : Whole) → IsEarlier so_far whole → IsOfActors s whole
      → AreInPhases s.profile (acts_of s.threads s.keepers phases) at_start end answers whole
  pub written_are : written ≡ arranged OnThreads (actors s) end.records
  pub empty : (i : ℕ) (d : Worker) → i < length team.threads.items → (cached (get_or team.threads.items i d).cache).locals ≡ []
  pub low : (i : ℕ) (d : Worker) → i < length team.threads.items → IsLow (get_or team.threads.items i d).keeper
