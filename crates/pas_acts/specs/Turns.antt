-- An actor at its desk, before its acts and after them.
use Rattle.std.specs.Prelude.{ℕ, ◌+◌, ◌≤◌, ◌≡◌, ◌≢◌, List, ◌++◌, length}
use Rattle.pas_profile.specs.declared.profile.Profile.{Profile}
use Rattle.pas_steps.specs.{Calls.Calls, Desks.{Standing, triples}, Lists.part, Views.View, declared.step.Made.Made}
use Rattle.pas_records.specs.{Rooms.{records_in, room_of, Records}, declared.record.Record.Record}
use Rattle.pas_cache.specs.Caches.{Cached, AtRest}
use Rattle.pas_answers.specs.{Answers.Progress, Calls.owed_events, Ways.EachOf}
use Rattle.pas_acts.specs.Works.{Later, Sits}

-- Thread k sits at the desk with this cache and these records, where the replay came as far as p. There is room for the events and the records that it owes,
-- and for those of `later` more.
pub record RestsAt (f : Profile) (k : ℕ) (desk : Standing) (c : Cached) (out : Records) (later : Later) (p : Progress) : Type 0 where
  pub sits : Sits f k (AtRest f c) desk p.list (owed_events f c (part k p.list) + later.events)
  pub cache : p.caches k ≡ c
  pub spare : length (records_in out) + (owed_events f c (part k p.list) + later.records) ≤ room_of out

-- ---- what an actor's acts between p and q did
-- its steps came onto the list, and so onto each list for which its desk stood
pub record Moves (k : ℕ) (Rest Rest' : View → Type 0) (desk desk' : Standing) (p q : Progress) : Type 0 where
  pub steps : List Made
  pub list_is : q.list ≡ triples k steps ++ p.list
  pub calls : Calls desk desk' Rest (λ v w. Rest' w) steps

-- what was said is the actor's own, and came to the end of its records
pub record Says (k : ℕ) (out out' : Records) (p q : Progress) : Type 0 where
  pub said : List Record
  pub records_are : q.records ≡ p.records ++ said
  pub pushed : records_in out' ≡ records_in out ++ said
  pub room : room_of out' ≡ room_of out
  pub each : EachOf k said

-- nothing of another actor changed, nor what names stand for, nor the epoch that the scavenger read
pub record LeavesRest (k : ℕ) (p q : Progress) : Type 0 where
  pub parts : (j : ℕ) → j ≢ k → part j q.list ≡ part j p.list
  pub caches : (j : ℕ) → j ≢ k → q.caches j ≡ p.caches j
  pub names : q.names ≡ p.names
  pub epoch : q.epoch ≡ p.epoch
