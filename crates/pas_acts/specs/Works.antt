-- What a thread's worker has before and after its acts of a phase, at any desk.
use Rattle.std.specs.Prelude.{ℕ, ◌+◌, ◌≤◌, ◌≡◌, List, ◌++◌, length}
use Rattle.pas_profile.specs.declared.profile.Profile.{Profile}
use Rattle.pas_steps.specs.{Events.events_of, Lists.{Whole, part}, Views.View, Desks.Standing}
use Rattle.pas_records.specs.Rooms.{records_in, room_of, Records}
use Rattle.pas_cache.specs.Caches.{Cached, AtRest}
use Rattle.pas_trace.specs.Acts.{Act}
use Rattle.pas_answers.specs.{Answers.{Named, standing_for, Progress}, Fit.{AreFit, own_costs_of}, Names.names_held, Calls.{MayStand, block_behind, AreKnown}}
use Rattle.pas_answers.specs.Calls.{owed_events}
use Rattle.pas_acts.specs.NameBooks.{Table, requests_in, room_for, names_of, names_asked, ArePlaced, known_in}

-- for how many events and how many records more there is room in the end
pub record Later : Type 0 where
  pub events : ℕ
  pub records : ℕ

-- what a thread keeps beside its desk: its cache, what names stand for to it, and its records
pub record Keeps : Type 0 where
  pub cache : Cached
  pub table : Table
  pub out : Records

abbrev pub keeps : Cached → Table → Records → Keeps
keeps c table out = record { cache = c; table = table; out = out }

-- Actor k sits at the desk, which stands for its part of this list beside the list; what it has in hand is so, and there is room for `need` events more.
pub record Sits (f : Profile) (k : ℕ) (Rest : View → Type 0) (desk : Standing) (l : Whole) (need : ℕ) : Type 0 where
  pub actor : desk.seat.actor ≡ k
  pub profile : desk.seat.profile ≡ f
  pub stood : desk.stands (part k l) l
  pub rest : Rest (part k l)
  pub room : length (events_of k (part k l)) + need ≤ desk.seat.room

-- The table says what the names stand for, and these acts fit to them. The names of the thread's requests, and then those that the acts ask for, have their
-- places in order, and there is room for them.
pub record KnowsNames (f : Profile) (acts : List Act) (table : Table) (names : List Named) : Type 0 where
  pub asked : List ℕ
  pub fit : AreFit f (names_held table.book.names) asked acts
  pub tells : (n : ℕ) → known_in table.book table.requests n ≡ block_behind (standing_for names n)
  pub stand : (n : ℕ) → MayStand f (known_in table.book table.requests n)
  pub known : AreKnown asked names
  pub placed : ArePlaced table.book 0 (names_of (requests_in table.requests) ++ names_asked acts)
  pub room : length (requests_in table.requests) + length (names_asked acts) ≤ room_for table.requests

-- The replay, as far as thread k has a hand in it, came as far as p, and these of its acts come next. There is room for the events and the records that
-- they make in the end, and for those of `later` more.
pub record ThreadAt (f : Profile) (k : ℕ) (acts : List Act) (desk : Standing) (has : Keeps) (later : Later) (p : Progress) : Type 0 where
  pub sits : Sits f k (AtRest f has.cache) desk p.list (owed_events f has.cache (part k p.list) + own_costs_of k acts + later.events)
  pub cache : p.caches k ≡ has.cache
  pub spare : length (records_in has.out) + (owed_events f has.cache (part k p.list) + own_costs_of k acts + later.records) ≤ room_of has.out
  pub names : KnowsNames f acts has.table p.names
