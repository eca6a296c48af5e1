-- The scavenger's worker with the threads that are lent to it: with their passes, and on their bench.
use Rattle.std.specs.Prelude.{ℕ, ◌<◌, ◌≡◌, ◌≢◌, true, List, [], ◌∷◌, length, get_or}
use Rattle.pas_steps.specs.{Desks.Standing, Lists.part}
use Rattle.pas_records.specs.Rooms.{Records}
use Rattle.pas_shared.specs.{Passes.seat_of, Ruled.{among, steps_of, IsRowOf}, Benches.{row_on, rows_on, seat_of_member, IsBenchOf, StandsOver}}
use Rattle.pas_shared.specs.declared.{bench.Bench.Bench, bench_desk.{BenchDesk.BenchDesk, BenchHome.BenchHome}, pass.SharedPass.SharedPass}
use Rattle.pas_shared.specs.declared.{region.SharedRegion.SharedRegion, rule.Entry.Entry}
use Rattle.pas_trace.specs.Acts.{Act}
use Rattle.pas_answers.specs.Answers.{Progress}
use Rattle.pas_threads.specs.{Hands.ScavengerAt, Seats.IsPassOfMember, Lent.{Shift, number_in, standing_at, AreBeside, IsLent, AreLent, SitsLent, AreOfCrew}}
use Rattle.pas_threads.specs.{Lent.IsButPlace, Turns.{Came, Pushed, Told, TookNoPart}, declared.workers.Worker.Worker}

-- what the scavenger's worker works with: its desk, the lent workers, its places for outcomes, and its records
pub record Crew : Type 1 where
  pub desk : Standing
  pub lent : List Worker
  pub places : ℕ
  pub out : Records

abbrev pub crew : Standing → List Worker → ℕ → Records → Crew
crew desk lent places out = record { desk = desk; lent = lent; places = places; out = out }

-- ---- wherever the lent threads are
-- The scavenger stands where the replay came as far as p, and so does each lent thread, as `Lends` says. These acts come next.
pub record CrewStands (Lends : ℕ → Worker → Progress → Type 0) (s : Shift) (acts : List Act) (has : Crew) (p : Progress) : Type 0 where
  pub stands : ScavengerAt s.profile acts has.desk has.places has.out s.own p
  pub lent : AreBeside Lends s has.lent p

-- These acts were done, and those come next. What each actor said came to the end of its own records, and no other took part.
pub record CrewDoes (Lends : ℕ → Worker → Progress → Type 0) (s : Shift) (acts next : List Act) (has has' : Crew) (p : Progress) : Type 0 where
  pub came : Came s.profile acts p
  pub stands : CrewStands Lends s next has' came.reached
  pub told : Pushed 0 came.said has.out has'.out
  pub lent : (i : ℕ) (d : Worker) → i < length has.lent → Told (number_in s i) came.said (get_or has.lent i d) (get_or has'.lent i d)
  pub books : came.reached.books ≡ p.books
  pub others : (k : ℕ) → 0 ≢ k → ((i : ℕ) → i < length s.idle → number_in s i ≢ k) → TookNoPart k came.said p came.reached

-- ---- with their passes
abbrev pub CrewAt : SharedRegion → Shift → List Act → Crew → Progress → Type 0
CrewAt region s acts has p = CrewStands (IsLent region s) s acts has p

abbrev pub CrewDid : SharedRegion → Shift → List Act → List Act → Crew → Crew → Progress → Type 0
CrewDid region s acts next has has' p = CrewDoes (IsLent region s) s acts next has has' p

-- ---- on their bench
abbrev pub CrewSits : BenchHome → Shift → List Act → Crew → Progress → Type 0
CrewSits h s acts has p = CrewStands (SitsLent h.region h.row.actors s) s acts has p

abbrev pub CrewActs : BenchHome → Shift → List Act → List Act → Crew → Crew → Progress → Type 0
CrewActs h s acts next has has' p = CrewDoes (SitsLent h.region h.row.actors s) s acts next has has' p

-- All sat down with their passes: the scavenger at the desk, and the lent ones beside it. The base of their row tells of each what the replay told.
pub record CrewSat (region : SharedRegion) (s : Shift) (pass : SharedPass) (desk : BenchDesk) (old new : List Worker) (p : Progress) : Type 0 where
  pub seat : seat_of_member desk.place.member ≡ seat_of pass
  pub stands : (standing_at desk).stands (part 0 p.list) p.list
  pub lent : AreBeside (SitsLent region (row_on desk.place.bench).actors s) s new p
  pub crew : AreOfCrew s 0 (length s.idle) (row_on desk.place.bench).actors
  pub tell : (k : ℕ) → among (row_on desk.place.bench).actors k ≡ true → part k p.list ≡ part k (steps_of (row_on desk.place.bench).base)
  pub but : (i : ℕ) (d : Worker) → i < length old → IsButPlace (get_or old i d) (get_or new i d)

-- all may rise
pub record CrewMayRise (region : SharedRegion) (s : Shift) (desk : BenchDesk) (workers : List Worker) (p : Progress) : Type 0 where
  pub own : desk.place.member.actor ≡ 0
  pub over : StandsOver (row_on desk.place.bench) p.list
  pub lent : AreBeside (SitsLent region (row_on desk.place.bench).actors s) s workers p
  pub crew : AreOfCrew s 0 (length s.idle) (row_on desk.place.bench).actors

-- All have passes again, with what they made, and left a bench whose last look saw a list that their row is one of.
pub record CrewRose (region : SharedRegion) (s : Shift) (desk : BenchDesk) (pass : SharedPass) (bench : Bench) (old new : List Worker) (p : Progress) : Type 0 where
  pub is : IsPassOfMember region (row_on desk.place.bench) desk.place.member pass
  pub lent : AreLent region s new p
  pub but : (i : ℕ) (d : Worker) → i < length old → IsButPlace (get_or old i d) (get_or new i d)
  pub of : IsBenchOf region bench
  pub base : List Entry
  pub rows : rows_on bench ≡ record { actors = []; made = []; base = base } ∷ []
  pub saw : IsRowOf (row_on desk.place.bench) (steps_of base)
