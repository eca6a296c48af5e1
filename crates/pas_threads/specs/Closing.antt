-- What is so of the workers once their actors made acts and said something; and the close: each thread is stopped, and then each keeper lowers its guards, one after the
-- other.
use Rattle.std.specs.Prelude.{ℕ, suc, ◌+◌, ◌<◌, ◌≤◌, ◌≡◌, ◌≢◌, List, [], ◌∷◌, ◌++◌, length, take, get_or, Option}
use Rattle.pas_trace.specs.{Acts.{Act, own_acts}, EveryPlan.own_records, declared.plan.Op.Op}
use Rattle.pas_records.specs.declared.record.Record.{Record}
use Rattle.pas_steps.specs.Lists.{Whole}
use Rattle.pas_cache.specs.Caches.{cached}
use Rattle.pas_shared.specs.declared.{region.SharedRegion.SharedRegion, pass.SharedPass.SharedPass}
use Rattle.pas_answers.specs.{Answers.Progress, Reaching.Reaches, Stages.one_by_one, Ways.{AreSpoken, records_by}}
use Rattle.pas_acts.specs.Pairs.{KeeperWaits, KeptPushed}
use Rattle.pas_threads.specs.{Pairs.{AreGuarded, kept_by_worker, no_more, owed_kept, IsKeeperOf, IsLow}, Sessions.{Session, planned, evenly, closing_acts}}
use Rattle.pas_threads.specs.{Sessions.{WorkerHas, WentBy, StandSo, WorkersRest}, Settling.ActorsStand, Turns.{owed_at, Came, Pushed, TookNoPart}}
use Rattle.pas_threads.specs.declared.{keeper.Keeper.Keeper, workers.Worker.Worker}

-- ---- the actors of a worker, where the replay came as far as q, and this was said
-- The thread rests there with room for these operations. What it said came to the end of its records.
pub record ThreadTold (region : SharedRegion) (s : Session) (left : List Op) (k : ℕ) (said : List Record) (old new : Worker) (q : Progress) : Type 0 where
  pub here : WorkerHas region s.profile k new (evenly (own_records (planned s) k left)) q
  pub out : Pushed k said old.out new.out

-- So does the keeper of thread k, if there is one.
pub record KeeperTold (region : SharedRegion) (s : Session) (left : List Op) (k : ℕ) (said : List Record) (old new : Option Keeper) (q : Progress) : Type 0 where
  pub of : IsKeeperOf region new
  pub waits : KeeperWaits s.profile (s.threads + k) (own_acts k left) (kept_by_worker new) no_more q
  pub out : KeptPushed (s.threads + k) said (kept_by_worker old) (kept_by_worker new)

-- ---- the close
-- The first i actors made their acts of the close. So it is of the worker at place j then: what its actors owed pays for what they said, the cache of a thread that was stopped
-- is empty, no guard of a keeper that lowered its own is up, and a keeper that didn't is as it was.
pub record IsClosing (region : SharedRegion) (s : Session) (i j : ℕ) (said : List Record) (old new : Worker) (p q : Progress) : Type 0 where
  pub thread : ThreadTold region s [] (suc j) said old new q
  pub keeper : KeeperTold region s [] (suc j) said old.keeper new.keeper q
  pub requests : new.requests ≡ old.requests
  pub paid : length (records_by (suc j) said) + owed_at s.profile (suc j) q ≤ owed_at s.profile (suc j) p
  pub kept_paid : length (records_by (s.threads + suc j) said) ≤ owed_kept s.profile (s.threads + suc j) old.keeper p
  pub empty : j < i → (cached new.cache).locals ≡ []
  pub low : s.threads + j < i → IsLow new.keeper
  pub left : i ≤ s.threads + j → new.keeper ≡ old.keeper

-- All workers rest, all actors stand, and the ledger has their steps.
pub record MayClose (region : SharedRegion) (s : Session) (slot : Option SharedPass) (workers : List Worker) (so_far : Whole) (p : Progress) : Type 0 where
  pub rest : WorkersRest region s [] workers p
  pub stand : ActorsStand region s slot workers p.list
  pub stood : StandSo s so_far p.list

-- So it is of all of them; and nobody but those actors took part.
pub record ClosedFirst (region : SharedRegion) (s : Session) (i : ℕ) (old new : List Worker) (p : Progress) : Type 0 where
  pub came : Came s.profile (take i (closing_acts s.threads s.keepers)) p
  pub spoken : AreSpoken came.said
  pub each : (j : ℕ) (d : Worker) → j < length old → IsClosing region s i j came.said (get_or old j d) (get_or new j d) p came.reached
  pub others : (k : ℕ) → ((m : ℕ) → m < i → m < s.threads + s.keepers → suc m ≢ k) → TookNoPart k came.said p came.reached
  pub names : came.reached.names ≡ p.names

-- these workers are as many as before, and there is an actor at place i
pub record MayCloseAt (s : Session) (i : ℕ) (old now : List Worker) : Type 0 where
  pub threads : s.threads ≡ length old
  pub many : length now ≡ length old
  pub guarded : AreGuarded s.keepers old
  pub there : i < s.threads + s.keepers

-- The actor at place i is there, and made its act.
pub record ClosesNext (region : SharedRegion) (s : Session) (i : ℕ) (old now new : List Worker) (p : Progress) (so : ClosedFirst region s i old now p) : Type 0 where
  pub next : ClosedFirst region s (i + 1) old new p
  pub act : Act
  pub reaches : Reaches s.profile (act ∷ []) so.came.reached next.came.reached
  pub acts_are : take (i + 1) (closing_acts s.threads s.keepers) ≡ take i (closing_acts s.threads s.keepers) ++ act ∷ []

-- .. and each of these acts was a stage, behind which the ledger was settled
pub record ClosedSo (region : SharedRegion) (s : Session) (i : ℕ) (old new : List Worker) (before after : Whole) (p : Progress) : Type 0 where
  pub closing : ClosedFirst region s i old new p
  pub went : WentBy s (one_by_one (take i (closing_acts s.threads s.keepers))) p closing.came.reached before after
