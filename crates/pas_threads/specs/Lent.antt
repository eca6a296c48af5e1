-- The threads that are lent to the scavenger's worker in a phase in which they are idle: on its bench, and with their passes before and after.
use Rattle.std.specs.Prelude.{ℕ, ◌<◌, ◌≤◌, ◌≡◌, ◌⊎◌, Bool, true, List, [], ◌∷◌, ◌++◌, Some, length, get_or}
use Rattle.pas_profile.specs.declared.profile.Profile.{Profile}
use Rattle.pas_steps.specs.{Desks.Standing, Lists.{Whole, part}, Views.View, Noted.AreNotesOf}
use Rattle.pas_cache.specs.Caches.{cached}
use Rattle.pas_shared.specs.{Ledgers.part_of, Ruled.{among, all_actors, HasRow, rows_of, rows_of_only, isnt, only_this, steps_of}, Benches.{row_on, first_row}}
use Rattle.pas_shared.specs.{Benches.{home_of, seat_of_member, standing_on, IsFreshRow, IsMemberOf, SitsInRow, StandsOver}, declared.bench.Bench.Bench}
use Rattle.pas_shared.specs.declared.{bench.Member.Member, bench_desk.{BenchDesk.BenchDesk, BenchHome.BenchHome}, region.SharedRegion.SharedRegion}
use Rattle.pas_shared.specs.declared.rule.{Entry.Entry, Row.Row}
use Rattle.pas_trace.specs.Acts.{Act, StopsIdle}
use Rattle.pas_answers.specs.{Answers.Progress, Ways.records_by}
use Rattle.pas_acts.specs.{Works.Later, Turns.RestsAt, AtDesks.{here, told_if, ThreadActs}}
use Rattle.pas_threads.specs.{Hands.HasPass, Sessions.WorkerHas, Seats.IsPassOfMember, Turns.{AreDistinct, Pushed, TookTurns}, declared.workers.Worker.Worker}
use Rattle.pas_records.specs.Rooms.{Records}

-- What the scavenger's worker goes by in a phase: the profile, which threads are idle, and for how much more there is room in the end, for the scavenger itself
-- and for each idle thread, by its place among them.
pub record Shift : Type 0 where
  pub profile : Profile
  pub idle : List ℕ
  pub distinct : AreDistinct (λ i. get_or idle i 0) (length idle)
  pub own : Later
  pub lends : ℕ → Later

-- the number of the idle thread at this place
abbrev pub number_in : Shift → ℕ → ℕ
number_in s i = get_or s.idle i 0

-- a worker was lent for each of these threads, in order, and stands as `Lends` says of that at its place
pub record AreBeside (Lends : ℕ → Worker → Progress → Type 0) (s : Shift) (lent : List Worker) (p : Progress) : Type 0 where
  pub many : length lent ≡ length s.idle
  pub each : (i : ℕ) (d : Worker) → i < length lent → Lends i (get_or lent i d) p

-- ---- with passes
-- the worker of that thread rests where the replay came as far as p
abbrev pub IsLent : SharedRegion → Shift → ℕ → Worker → Progress → Type 0
IsLent region s i worker p = WorkerHas region s.profile (number_in s i) worker (s.lends i) p

abbrev pub AreLent : SharedRegion → Shift → List Worker → Progress → Type 0
AreLent region s lent p = AreBeside (IsLent region s) s lent p

-- ---- on the bench
-- the member is one of these actors of the region, and noted these steps
pub record SitsAmong (region : SharedRegion) (actors : List ℕ) (member : Member) (v : View) : Type 0 where
  pub profile : member.profile ≡ region.profile
  pub among_them : among actors member.actor ≡ true
  pub noted : AreNotesOf member.actor v member.notes

-- a member at whose desk another one sits stands for what it noted, beside any list
abbrev pub standing_among : SharedRegion → List ℕ → Member → Standing
standing_among region actors member = record { seat = seat_of_member member; stands = λ v l. SitsAmong region actors member v }

-- the worker of thread k is one of these actors, and rests where the replay came as far as p
pub record WorkerSits (region : SharedRegion) (actors : List ℕ) (f : Profile) (k : ℕ) (worker : Worker) (later : Later) (p : Progress) : Type 0 where
  pub member : Member
  pub present : worker.member ≡ Some member
  pub rests : RestsAt f k (standing_among region actors member) (cached worker.cache) worker.out later p

-- .. the worker that was lent for the idle thread at this place
abbrev pub SitsLent : SharedRegion → List ℕ → Shift → ℕ → Worker → Progress → Type 0
SitsLent region actors s i worker p = WorkerSits region actors s.profile (number_in s i) worker (s.lends i) p

-- these actors are the scavenger and the idle threads at the places from `from` to `to`
pub record AreOfCrew (s : Shift) (from to : ℕ) (actors : List ℕ) : Type 0 where
  pub own : among actors 0 ≡ true
  pub lent : (i : ℕ) → from ≤ i → i < to → among actors (number_in s i) ≡ true
  pub only : (k : ℕ) → among actors k ≡ true → (k ≡ 0) ⊎ ((i : ℕ) × (from ≤ i) × (i < to) × (number_in s i ≡ k))

-- the rows say of each of their actors what the list tells
abbrev pub TellAs : List Row → Whole → Type 0
TellAs rows l = (k : ℕ) → among (all_actors rows) k ≡ true → HasRow rows k (part k l)

-- all of the worker but its place at the region is as it was
pub record IsButPlace (old new : Worker) : Type 0 where
  pub cache : new.cache ≡ old.cache
  pub requests : new.requests ≡ old.requests
  pub out : new.out ≡ old.out
  pub keeper : new.keeper ≡ old.keeper

-- ---- sitting down
-- the worker sat down with its pass, in a row of its own
pub record HasSeat (region : SharedRegion) (old new : Worker) (rows rows' : List Row) : Type 0 where
  pub has : HasPass region old.pass
  pub member : Member
  pub present : new.member ≡ Some member
  pub is : IsMemberOf has.pass member
  pub rows_are : rows' ≡ rows_of (part_of has.pass ∷ []) ++ rows
  pub but : IsButPlace old new

-- all that were lent did, beside the scavenger
pub record AreSeated (region : SharedRegion) (s : Shift) (old new : List Worker) (rows : List Row) (p : Progress) : Type 0 where
  pub lent : AreBeside (SitsLent region (all_actors rows) s) s new p
  pub crew : AreOfCrew s 0 (length s.idle) (all_actors rows)
  pub tell : TellAs rows p.list
  pub but : (i : ℕ) (d : Worker) → i < length old → IsButPlace (get_or old i d) (get_or new i d)

-- ---- at the desk
abbrev pub standing_at : BenchDesk → Standing
standing_at desk = standing_on desk.place.bench desk.place.member

-- what no step there changes, whoever of the bench makes it
abbrev pub home_at : BenchDesk → BenchHome
home_at desk = home_of desk.region.now (row_on desk.place.bench)

-- it is at this home, and its row names the steps of its actors in the order in which they were told
pub record IsDeskAt (h : BenchHome) (desk : BenchDesk) (p : Progress) : Type 0 where
  pub home : home_at desk ≡ h
  pub over : StandsOver (row_on desk.place.bench) p.list

-- The worker's thread was stopped at the desk of this bench, where it was idle for n epochs. The records of its flush came to its own, and that it was stopped, if it was, to `out`.
pub record StopsLent (h : BenchHome) (f : Profile) (k n : ℕ) (bench' : Bench) (old new : Worker) (out out' : Records) (later : Later)
    (p : Progress) : Type 0 where
  pub stopped : Bool
  pub sat : BenchDesk
  pub risen : BenchDesk
  pub does : ThreadActs f k (StopsIdle k n ∷ []) [] (told_if stopped k) (here (standing_at sat) (cached old.cache) old.out)
      (here (standing_at risen) (cached new.cache) new.out) later p
  pub sits : WorkerSits h.region h.row.actors f k new later does.reached
  pub over : StandsOver (row_on bench') does.reached.list
  pub requests : new.requests ≡ old.requests
  pub keeper : new.keeper ≡ old.keeper
  pub told : Pushed 0 (told_if stopped k) out out'

-- These acts were done with the lent workers, which stand so then. Of what was said at most `most` is the scavenger's, which came to the end of `out`.
pub record DidWithLent (Lends : ℕ → Worker → Progress → Type 0) (s : Shift) (acts : List Act) (old new : List Worker) (out out' : Records) (most : ℕ) (p : Progress) : Type 0 where
  pub turns : TookTurns s.profile (number_in s) Lends acts old new p
  pub told : Pushed 0 turns.came.said out out'
  pub few : length (records_by 0 turns.came.said) ≤ most

-- .. at the desk
pub record StoppedLent (h : BenchHome) (s : Shift) (acts : List Act) (bench : Bench) (old new : List Worker) (out out' : Records) (most : ℕ) (p : Progress) : Type 0 where
  pub did : DidWithLent (SitsLent h.region h.row.actors s) s acts old new out out' most p
  pub over : StandsOver (row_on bench) did.turns.came.reached.list

-- ---- leaving
-- the worker may leave the bench with these rows
pub record MayLeave (region : SharedRegion) (rows : List Row) (worker : Worker) : Type 0 where
  pub member : Member
  pub present : worker.member ≡ Some member
  pub fresh : IsFreshRow rows
  pub profile : member.profile ≡ region.profile
  pub sits : SitsInRow (first_row rows) member

-- It left, and has a pass with what it made. The others stay.
pub record HasLeave (region : SharedRegion) (old new : Worker) (rows rows' : List Row) : Type 0 where
  pub may : MayLeave region rows old
  pub has : HasPass region new.pass
  pub is : IsPassOfMember region (first_row rows) may.member has.pass
  pub rows_are : rows' ≡ rows_of_only (isnt (only_this may.member.actor)) rows
  pub but : IsButPlace old new

-- The scavenger and all that were lent sit in one row, whose base tells of each what the replay told. Nobody made a step since.
pub record MayLeaveAll (region : SharedRegion) (s : Shift) (workers : List Worker) (actors : List ℕ) (base : List Entry) (rows : List Row) (p : Progress) : Type 0 where
  pub lent : AreBeside (SitsLent region actors s) s workers p
  pub crew : AreOfCrew s 0 (length s.idle) actors
  pub fresh : rows ≡ record { actors = actors; made = []; base = base } ∷ []
  pub tell : (k : ℕ) → among actors k ≡ true → part k (steps_of base) ≡ part k p.list

-- All that were lent left, and have their passes. Only the scavenger stays.
pub record HaveLeave (region : SharedRegion) (s : Shift) (old new : List Worker) (base : List Entry) (rows : List Row) (p : Progress) : Type 0 where
  pub lent : AreLent region s new p
  pub but : (i : ℕ) (d : Worker) → i < length old → IsButPlace (get_or old i d) (get_or new i d)
  pub actors : List ℕ
  pub fresh : rows ≡ record { actors = actors; made = []; base = base } ∷ []
  pub own : among actors 0 ≡ true
  pub only : (k : ℕ) → among actors k ≡ true → k ≡ 0
