-- The operations of one phase, by all hands at once.
use Rattle.std.specs.Prelude.{ℕ, suc, ◌+◌, ◌<◌, ◌≤◌, ◌≡◌, ◌⊎◌, Bool, true, false, List, [], ◌++◌, length, get_or}
use Rattle.pas_profile.specs.declared.profile.Profile.{Profile}
use Rattle.pas_trace.specs.{EveryPlan.AreSound, declared.plan.Op.Op, Acts.{is_active, acts_of_ops, idle_threads, own_acts, scavenger_acts}}
use Rattle.pas_records.specs.declared.record.Record.{Record}
use Rattle.pas_utility.specs.Outcomes.{places_of}
use Rattle.pas_steps.specs.Lists.{Whole}
use Rattle.pas_shared.specs.{Ledgers.looks_of, Ruled.{steps_of, IsEarlier, AreEarlier}, declared.{ledger.Ledger.Ledger, region.SharedRegion.SharedRegion}}
use Rattle.pas_shared.specs.declared.rule.Entry.{Entry}
use Rattle.pas_answers.specs.{Answers.{Named, Progress}, Fit.own_costs_of, Ways.records_by}
use Rattle.pas_acts.specs.{Shares.{AreAmong, AreKeptBehind, owner_in, acts_by}, NameBooks.{requests_in, room_for, names_of, names_asked}, Works.Later}
use Rattle.pas_acts.specs.{Keepers.LaterKept, Pairs.{KeeperWaits, KeptPushed, KeptStill}, declared.names.NameBook.NameBook}
use Rattle.pas_threads.specs.{Left.{pair_in, crew_in, HasLeft, KeepsOrder}, Taken.HandsOver, Hands.{standing_of_pass, HasPass, ScavengerAt}, Sessions.Session}
use Rattle.pas_threads.specs.{Sessions.{WorkerHas, HasPlaces}, Pairs.{kept_by_worker, IsKeeperOf, PairStands, owed_kept}, Turns.{Came, Pushed, TookNoPart}}
use Rattle.pas_threads.specs.{Turns.owed_at, declared.{workers.Worker.Worker, scavenger.Scavenger.Scavenger, phases.Team.Team}}

-- What all hands of a phase go by: the profile of the region and the number of threads, the book of names, the operations, for how much more each actor has
-- room in the end, and how far the replay came before them.
pub record Round : Type 0 where
  pub profile : Profile
  pub threads : ℕ
  pub book : NameBook
  pub ops : List Op
  pub later : ℕ → Later
  pub more : ℕ → LaterKept
  pub start : Progress

abbrev pub round : Session → NameBook → List Op → (ℕ → Later) → (ℕ → LaterKept) → Progress → Round
round s book ops later more p = record { profile = s.profile; threads = s.threads; book = book; ops = ops; later = later; more = more; start = p }

-- the threads that are idle in it
abbrev pub idle_in : Round → List ℕ
idle_in r = idle_threads r.threads r.ops

-- ---- before
-- the scavenger has its pass, and with it stands where the replay came as far as that
pub record ScavengerHas (region : SharedRegion) (r : Round) (scavenger : Scavenger) : Type 0 where
  pub has : HasPass region scavenger.pass
  pub at : ScavengerAt r.profile (scavenger_acts (idle_in r) r.ops) (standing_of_pass has.pass) (places_of scavenger.outcomes) scavenger.out (r.later 0) r.start
  pub none : scavenger.lent.items ≡ []

-- The operations are of the threads, whose workers stand where the replay came as far as that, as the scavenger does. Their acts of the phase come next.
pub record IsReady (region : SharedRegion) (r : Round) (team : Team) : Type 0 where
  pub asked : List ℕ
  pub sound : AreSound r.profile asked r.ops
  pub within : (k : ℕ) → is_active r.ops k ≡ true → k ≤ r.threads
  pub behind : AreKeptBehind r.threads r.ops
  pub many : length team.threads.items ≡ r.threads
  pub few : r.threads < 32
  pub workers : (i : ℕ) (d : Worker) → i < length team.threads.items
      → PairStands region r.book r.profile r.threads (suc i) (own_acts (suc i) r.ops) (get_or team.threads.items i d) (r.later (suc i)) (r.more (suc i)) r.start
  pub scavenger : ScavengerHas region r team.scavenger
  pub places : HasPlaces r.threads team

-- ---- after
-- What the two actors of the worker said of this, with what they owe then, is paid for: by what they owed and the acts; or the keeper took no part, and
-- there is room for what the thread owes.
abbrev pub PaysFor : Round → ℕ → Worker → Worker → List Record → Progress → Type 0
PaysFor r k old new said q =
    (length (records_by k said) + length (records_by (r.threads + k) said) + (owed_at r.profile k q + owed_kept r.profile (r.threads + k) new.keeper q)
    ≤ own_costs_of k (own_acts k r.ops) + (owed_at r.profile k r.start + owed_kept r.profile (r.threads + k) old.keeper r.start))
    ⊎ ((records_by (r.threads + k) said ≡ []) × (owed_kept r.profile (r.threads + k) new.keeper q ≡ owed_kept r.profile (r.threads + k) old.keeper r.start))

-- The acts of thread k's worker were done, or of the scavenger's, to which it was lent: the replay came as far as q by them, and this was said. What the
-- thread and its keeper said of it came to the end of the records of each, and its requests are told of.
pub record ThreadDone (region : SharedRegion) (r : Round) (k : ℕ) (old new : Worker) (said : List Record) (q : Progress) : Type 0 where
  pub stands : WorkerHas region r.profile k new (r.later k) q
  pub of : IsKeeperOf region new.keeper
  pub waits : KeeperWaits r.profile (r.threads + k) [] (kept_by_worker new.keeper) (r.more k) q
  pub told : Pushed k said old.out new.out
  pub kept_told : KeptPushed (r.threads + k) said (kept_by_worker old.keeper) (kept_by_worker new.keeper)
  pub still : KeptStill (r.threads + k) (kept_by_worker old.keeper) r.start q
  pub paid : PaysFor r k old new said q
  pub noted : names_of (requests_in new.requests) ≡ names_of (requests_in old.requests) ++ names_asked (own_acts k r.ops)
  pub room_noted : room_for new.requests ≡ room_for old.requests
  pub hands_over : requests_in old.requests ≡ [] → (names : List Named) → AreAmong q.names names → HandsOver r.profile r.ops r.book k new.requests names

-- The scavenger's acts were done, and it has its pass again. Nobody past the threads took part in them.
abbrev pub ScavengerDone : SharedRegion → Round → Scavenger → Scavenger → List Record → Progress → Type 0
ScavengerDone region r old new said q =
    (has : HasPass region new.pass) × ScavengerAt r.profile [] (standing_of_pass has.pass) (places_of new.outcomes) new.out (r.later 0) q × Pushed 0 said old.out new.out
    × ((k : ℕ) → r.threads < k → TookNoPart k said r.start q)

-- what worker w did, for all actors in its hands; one without an operation did nothing
pub record Piece (region : SharedRegion) (r : Round) (old new : List Worker) (before after : Scavenger) (w : ℕ) : Type 0 where
  pub own : Came r.profile (acts_by (owner_in r.threads r.ops) w (acts_of_ops (idle_in r) r.ops)) r.start
  pub threads : (i : ℕ) (d : Worker) → i < length old → owner_in r.threads r.ops (suc i) ≡ w
      → ThreadDone region r (suc i) (get_or old i d) (get_or new i d) own.said own.reached
  pub scavenger : w ≡ 0 → ScavengerDone region r before after own.said own.reached
  pub still : is_active r.ops w ≡ false → own.reached.list ≡ r.start.list

-- .. and the bench that it left
pub record PieceLeft (region : SharedRegion) (r : Round) (old new : List Worker) (before after : Scavenger) (w : ℕ) : Type 0 where
  pub piece : Piece region r old new before after w
  pub left : (i : ℕ) (d : Worker) → w ≡ suc i → i < length old → is_active r.ops w ≡ true
      → HasLeft region (get_or new i d).bench (pair_in r.threads w (get_or old i d).keeper) r.start.list piece.own.reached.list
  pub crew_left : w ≡ 0 → is_active r.ops w ≡ true → HasLeft region after.bench (crew_in (idle_in r)) r.start.list piece.own.reached.list

-- all hands did their operations, each for itself, and left their benches
pub record HaveActed (region : SharedRegion) (r : Round) (old new : Team) : Type 0 where
  pub pieces : (w : ℕ) → PieceLeft region r old.threads.items new.threads.items old.scavenger new.scavenger w
  pub many : length new.threads.items ≡ length old.threads.items
  pub none : new.scavenger.lent.items ≡ []
  pub book : new.book ≡ old.book
  pub places : HasPlaces r.threads new

-- all hands did their operations, each for itself
pub record IsDone (region : SharedRegion) (r : Round) (old new : Team) : Type 0 where
  pub pieces : (w : ℕ) → Piece region r old.threads.items new.threads.items old.scavenger new.scavenger w
  pub many : length new.threads.items ≡ length old.threads.items
  pub none : new.scavenger.lent.items ≡ []
  pub book : new.book ≡ old.book
  pub places : HasPlaces r.threads new

-- The ledger heard in which order these actors did what is told of: a list that begins with all that it saw begins with steps that keep that order.
pub record HeardOrder (ledger : Ledger) (chosen : ℕ → Bool) (told told' : Whole) : Type 0 where
  pub base : List Entry
  pub order : KeepsOrder chosen told told' (steps_of base)
  pub first : (l : Whole) → AreEarlier (looks_of ledger) l → IsEarlier (steps_of base) l

-- .. of each worker with an operation
pub record IsHeard (region : SharedRegion) (ledger : Ledger) (r : Round) (old new : Team) : Type 0 where
  pub done : IsDone region r old new
  pub threads : (i : ℕ) (d : Worker) → i < length old.threads.items → is_active r.ops (suc i) ≡ true
      → HeardOrder ledger (pair_in r.threads (suc i) (get_or old.threads.items i d).keeper) r.start.list (done.pieces (suc i)).own.reached.list
  pub scavenger : is_active r.ops 0 ≡ true → HeardOrder ledger (crew_in (idle_in r)) r.start.list (done.pieces 0).own.reached.list
