-- What stands between two acts of a replay: one legal list, for which the region and the pass of each actor stand, and at whose end each thread is at
-- rest with its cache, each keeper fits its book, and the scavenger has nothing.
use Rattle.std.specs.Prelude.{ℕ, zero, suc, ◌+◌, ◌<◌, ◌≤◌, ◌≡◌, nat_le, Bool, true, false, if◌then◌else◌, List, [], ◌∷◌, ◌++◌, length, Option, Some, None}
use Rattle.std.specs.{Prelude.{slice_index_or, slice_set}, List.AllByRecursion}
use Rattle.pas_profile.specs.declared.{profile.Profile.Profile, name.Block.Block, guard.Guard.Guard}
use Rattle.pas_steps.specs.{Clear.HasNothing, Events.events_of, Lists.{Whole, part}, Views.View, Unknown.unknown_pages}
use Rattle.pas_plain.specs.{Plain.{profile_of, actor_of, room_of_pass, RegionStands, PassStands}, Seats.{region_of, pass_of, IsPassOf}}
use Rattle.pas_plain.specs.declared.{region.PlainRegion.PlainRegion, pass.PlainPass.PlainPass, desk.PlainDesk.PlainDesk}
use Rattle.pas_guard.specs.{Books.{FitsBook, guards_in, size_of_book}, declared.book.GuardBook.GuardBook}
use Rattle.pas_answers.specs.{Keeping.owed_by_keeper, Names.names_held, Indexes.ReachesBy, Rests.AllAtRest, Replays.at_start, Answers.{Progress, Named, Caches}}
use Rattle.pas_answers.specs.{Answers.Books, Calls.{Tells, MayStand, AllMayStand, AreKnown, named_by, owed_events}, Fit.{AreFit, AreOfThreads, cost_of_act}}
use Rattle.pas_answers.specs.{Fit.{own_costs_of, kept_costs_of, unbacks_of}, declared.names.Names.Names}
use Rattle.pas_cache.specs.{Caches.{Cached, cached, AtRest}, declared.cache.ThreadCache.ThreadCache}
use Rattle.pas_utility.specs.Outcomes.{places_of}
use Rattle.pas_trace.specs.{Acts.{Act, Settles, act_kept}, Asked.keeper_of, declared.plan.{Op.Op, Task.Task}}
use Rattle.pas_large.specs.Doors.{Indexes, no_ranges}
use Rattle.pas_acts.specs.Tries.{tries_of, AreKeptFor}
use Rattle.pas_replay.specs.declared.seats.Actors.{Actors}
use Rattle.pas_records.specs.{Lines.CanShow, Rooms.{records_in, room_of, Records}, declared.record.Record.Record}

-- ---- passes, by actor; None of the one at the desk
abbrev pub Slots : Type 0
Slots = List (Option PlainPass)

abbrev pub pass_in : Slots → ℕ → Option PlainPass
pass_in passes k = slice_index_or passes k None

-- the passes, once the actor at the desk has risen
abbrev pub risen : PlainDesk → Slots → Slots
risen desk passes = slice_set passes (actor_of (pass_of desk)) (Some (pass_of desk))

-- the actor at the desk has a place among them
abbrev pub IsTaken : PlainDesk → Slots → Type 0
IsTaken desk passes = actor_of (pass_of desk) < length passes

-- the slot has a pass, which is one of the region, and of actor k
pub record MaySit (region : PlainRegion) (slot : Option PlainPass) (k : ℕ) : Type 0 where
  pub pass : PlainPass
  pub present : slot ≡ Some pass
  pub of_region : IsPassOf region pass
  pub actor_is : actor_of pass ≡ k

-- ---- the one desk of a replay, at which the actors take turns
-- actor k may sit down in the place of the one at the desk
pub record MayTakeSeat (desk : PlainDesk) (passes : Slots) (k : ℕ) : Type 0 where
  pub taken : IsTaken desk passes
  pub place : k < length passes
  pub own : MaySit (region_of desk) (pass_in (risen desk passes) k) k

-- it sat down there: nothing else changed
pub record ChangesSeats (desk desk' : PlainDesk) (passes passes' : Slots) (k : ℕ) : Type 0 where
  pub region_is : region_of desk' ≡ region_of desk
  pub actor_is : actor_of (pass_of desk') ≡ k
  pub passes_are : risen desk' passes' ≡ risen desk passes

-- a pass of the same actor, with the same room, which stands for all for which the other one stood
pub record StandsIn (old new : PlainPass) : Type 0 where
  pub actor : actor_of new ≡ actor_of old
  pub room : room_of_pass new ≡ room_of_pass old
  pub stands : (f : Profile) (l : Whole) → PassStands f old l → PassStands f new l

-- where the one slot has a pass, the other has one in its place
abbrev pub IsInPlace : Option PlainPass → Option PlainPass → Type 0
IsInPlace slot slot' = (pass : PlainPass) → slot ≡ Some pass → (pass' : PlainPass) × (slot' ≡ Some pass') × StandsIn pass pass'

-- it sat down there, and may have forgotten what it had shown
pub record TakesSeat (desk desk' : PlainDesk) (passes passes' : Slots) (k : ℕ) : Type 0 where
  pub region_is : region_of desk' ≡ region_of desk
  pub actor_is : actor_of (pass_of desk') ≡ k
  pub as_many : length (risen desk' passes') ≡ length (risen desk passes)
  pub in_place : (j : ℕ) → IsInPlace (pass_in (risen desk passes) j) (pass_in (risen desk' passes') j)

-- ---- all actors
-- Actor k has its pass, which stands for the list, at whose end its part is so. There is room for `need` events more.
pub record SeatStands (f : Profile) (k : ℕ) (Rest : View → Type 0) (slot : Option PlainPass) (l : Whole) (need : ℕ) : Type 0 where
  pub pass : PlainPass
  pub present : slot ≡ Some pass
  pub actor : actor_of pass ≡ k
  pub stands : PassStands f pass l
  pub rest : Rest (part k l)
  pub room : length (events_of k (part k l)) + need ≤ room_of_pass pass

-- What is so of the view of actor k between its acts, in a replay of so many threads: the scavenger has nothing, a thread is at rest with its cache, and the
-- actors behind them, the keepers, fit their books.
abbrev pub rests_as : Bool → Profile → Cached → List Guard → View → Type 0
rests_as true f c guards = AtRest f c
rests_as false f c guards = FitsBook f guards

abbrev pub rests : ℕ → Profile → Progress → ℕ → View → Type 0
rests threads f p zero = HasNothing
rests threads f p (suc i) = rests_as (nat_le (suc i) threads) f (p.caches (suc i)) (p.books (suc i))

-- the events that it owes then: a keeper a deed of each page that it doesn't know
abbrev pub owes_as : Bool → Profile → Cached → View → ℕ
owes_as true f c v = owed_events f c v
owes_as false f c v = unknown_pages f v

abbrev pub owes : ℕ → Profile → Progress → ℕ → View → ℕ
owes threads f p zero v = 0
owes threads f p (suc i) v = owes_as (nat_le (suc i) threads) f (p.caches (suc i)) v

-- how many events it may make for these acts: the scavenger unbacks each page once in a pass, and a keeper tries requests
abbrev pub own_events : ℕ → Profile → ℕ → List Act → ℕ
own_events threads f zero acts = unbacks_of f.pages acts
own_events threads f (suc i) acts = if nat_le (suc i) threads then own_costs_of (suc i) acts else kept_costs_of (suc i) acts

-- actor k stands, with room for what it owes and for its acts among those that are left
abbrev pub ActorStands : ℕ → Profile → ℕ → Progress → Option PlainPass → List Act → Type 0
ActorStands threads f k p slot acts = SeatStands f k (rests threads f p k) slot p.list (owes threads f p k (part k p.list) + own_events threads f k acts)

-- the records that actor k owes: a keeper says of each guard that it is lowered
abbrev pub records_owed_as : Bool → Profile → Cached → List Guard → View → ℕ
records_owed_as true f c guards v = owed_events f c v
records_owed_as false f c guards v = owed_by_keeper f guards v

abbrev pub owed_of : ℕ → Profile → Progress → ℕ → ℕ
owed_of threads f p k = records_owed_as (nat_le k threads) f (p.caches k) (p.books k) (part k p.list)

-- .. the first n actors after the scavenger
abbrev pub owed_by : ℕ → Profile → Progress → ℕ → ℕ
owed_by threads f p zero = 0
owed_by threads f p (suc n) = owed_of threads f p (suc n) + owed_by threads f p n

-- what the books of the keepers have, who are the actors behind so many threads
abbrev pub HaveBooks : ℕ → Books → List GuardBook → Type 0
HaveBooks threads books list = (i : ℕ) (d : GuardBook) → i < length list → books (threads + suc i) ≡ guards_in (slice_index_or list i d)

-- .. each has a place for a guard of each request that it may still try
abbrev pub HavePlaces : ℕ → List GuardBook → List Act → Type 0
HavePlaces threads list acts = (i : ℕ) (d : GuardBook) → i < length list → length (guards_in (slice_index_or list i d)) + tries_of (threads + suc i) acts ≤ size_of_book (slice_index_or list i d)

-- no book has a guard
abbrev pub AreLowered : List GuardBook → Type 0
AreLowered list = (i : ℕ) (d : GuardBook) → i < length list → guards_in (slice_index_or list i d) ≡ []

-- what the caches hold
abbrev pub AreCaches : Caches → List ThreadCache → Type 0
AreCaches caches list = (i : ℕ) (d : ThreadCache) → i < length list → caches (suc i) ≡ cached (slice_index_or list i d)

-- no cache has a local allocator
abbrev pub AreEmpty : List ThreadCache → Type 0
AreEmpty list = (i : ℕ) (d : ThreadCache) → i < length list → (cached (slice_index_or list i d)).locals ≡ []

-- ---- the replay goes on
-- a replay: the profile of its region, how many threads and keepers it has, and all its acts; for how many records there is room, and which were handed on
pub record Replay : Type 0 where
  pub profile : Profile
  pub threads : ℕ
  pub keepers : ℕ
  pub acts : List Act
  pub room : ℕ
  pub told : List Record

-- .. once these were handed on, too
abbrev pub telling : Replay → List Record → Replay
telling r told = record r { told = r.told ++ told }

-- what is left of a replay: its acts, and for how many records there is room beside those that are owed
pub record Left : Type 0 where
  pub acts : List Act
  pub room : ℕ

-- what these acts cost, and so many records more
abbrev pub costs_and : Profile → List Act → ℕ → ℕ
costs_and f [] more = more
costs_and f (act ∷ acts) more = cost_of_act f.pages act + costs_and f acts more

-- these acts, for which there is room, and then what is left behind them
abbrev pub upon : Replay → List Act → Left → Left
upon r acts more = record { acts = acts ++ more.acts; room = costs_and r.profile acts more.room }

-- what a replay has in hand between two acts
pub record Hand : Type 0 where
  pub region : PlainRegion
  pub passes : Slots
  pub caches : List ThreadCache
  pub books : List GuardBook
  pub places : ℕ
  pub indexes : Indexes
  pub table : Names
  pub out : Records

-- .. while nobody sits at the desk
abbrev pub hand_of : PlainRegion → Actors → Names → Records → Hand
hand_of region actors table out = record {
  region = region;
  passes = actors.passes.items;
  caches = actors.caches.items;
  books = actors.books.items;
  places = places_of actors.outcomes;
  indexes = actors.indexes.items;
  table = table;
  out = out;
}

-- .. once the actor at the desk has risen
abbrev pub hand_at : PlainDesk → Actors → Names → Records → Hand
hand_at desk actors table out = record {
  region = region_of desk;
  passes = risen desk actors.passes.items;
  caches = actors.caches.items;
  books = actors.books.items;
  places = places_of actors.outcomes;
  indexes = actors.indexes.items;
  table = table;
  out = out;
}

-- the table says what the names stand for, and the acts that are left fit to them
pub record HasNames (f : Profile) (acts : List Act) (table : Names) (names : List Named) : Type 0 where
  pub asked : List ℕ
  pub fit : AreFit f (names_held table) asked acts
  pub tells : Tells table names
  pub stand : AllMayStand f table
  pub known : AreKnown asked names

-- acts that take a replay of so many threads from p to q, with the runs that the indexes name, all actors being at rest between them
abbrev pub GoesBy : ℕ → Profile → Indexes → List Act → Progress → Progress → Type 0
GoesBy threads f indexes acts p q = (is : ReachesBy f indexes acts p q) × AllAtRest threads f acts p q is.0

-- These acts of the replay are left, and it came as far as p: wherever they take it from here so, all of its acts take it from the start, where the indexes held
-- nothing. Each actor of the region stands. There is a cache for each thread, and a book for each keeper. The threads and keepers are actors of the region,
-- those operations are theirs, and beside them only the scavenger made steps. The records are those that were handed on, and then those that wait; each can be shown. There
-- is room for those that are owed, and for so many more.
pub record IsAt (r : Replay) (left : Left) (h : Hand) (p : Progress) : Type 0 where
  pub profile_is : profile_of h.region ≡ r.profile
  pub actors : length h.passes ≡ r.profile.threads + 1
  pub many : length h.caches ≡ r.threads
  pub kept : length h.books ≡ r.keepers
  pub threads : r.threads + r.keepers ≤ r.profile.threads
  pub operate : AreOfThreads r.threads left.acts
  pub keep : AreKeptFor r.threads r.keepers left.acts
  pub places : h.places ≡ r.profile.pages
  pub stands : RegionStands h.region p.list
  pub each : (k : ℕ) → k ≤ r.profile.threads → ActorStands r.threads r.profile k p (pass_in h.passes k) left.acts
  pub nobody : (k : ℕ) → r.threads + r.keepers < k → part k p.list ≡ []
  pub names : HasNames r.profile left.acts h.table p.names
  pub caches_are : AreCaches p.caches h.caches
  pub books_are : HaveBooks r.threads p.books h.books
  pub books_have : HavePlaces r.threads h.books left.acts
  pub records_are : r.told ++ records_in h.out ≡ p.records
  pub shown : AllByRecursion CanShow p.records
  pub size : room_of h.out ≡ r.room
  pub spare : length (records_in h.out) + (owed_by r.threads r.profile p (r.threads + r.keepers) + left.room) ≤ room_of h.out
  pub answers : (q : Progress) → GoesBy r.threads r.profile h.indexes left.acts p q → GoesBy r.threads r.profile (no_ranges r.profile.heaps) r.acts at_start q

abbrev pub SoFar : Replay → Left → Hand → Type 0
SoFar r left h = (p : Progress) × IsAt r left h p

-- ---- at the desk
-- what a replay has in hand while an actor sits there
pub record Session : Type 0 where
  pub desk : PlainDesk
  pub actors : Actors
  pub table : Names
  pub out : Records

abbrev pub session : PlainDesk → Actors → Names → Records → Session
session desk actors table out = record { desk = desk; actors = actors; table = table; out = out }

-- that actor has a place among the passes
abbrev pub SoFarAt : Replay → Left → Session → Type 0
SoFarAt r left s = IsTaken s.desk s.actors.passes.items × SoFar r left (hand_at s.desk s.actors s.table s.out)

-- in some replay these acts come next, which go by its number of threads
abbrev pub MayGoOn : (ℕ → List Act) → Session → Type 0
MayGoOn acts s = (r : Replay) × (more : Left) × SoFarAt r (upon r (acts r.threads) more) s

-- in each replay in which these acts come next, those after them are left afterwards
abbrev pub GoesOn : (ℕ → List Act) → Session → Session → Type 0
GoesOn acts before after = (r : Replay) (more : Left) → SoFarAt r (upon r (acts r.threads) more) before → SoFarAt r more after

-- ---- an operation of a thread
-- its acts, by the task that it asks for: it is kept by the keeper of a guarded request
abbrev pub own_acts_of : Task → Op → List Act
own_acts_of task op = act_kept (keeper_of task) op ∷ (Settles op.actor ∷ [])

-- the table has the name that the operation asked for, with what it came to
pub record HasNamed (op : Op) (came : Option Block) (before after : Names) : Type 0 where
  pub held : names_held after ≡ names_held before
  pub tells : (known : List Named) → Tells before known → Tells after (named_by op.what came ++ known)
  pub stand : (f : Profile) → AllMayStand f before → MayStand f came → AllMayStand f after

-- ---- the same, where the scavenger read this epoch last for an idle operation
abbrev pub HasRead : ℕ → Replay → Left → Session → Type 0
HasRead epoch r left s = IsTaken s.desk s.actors.passes.items × (p : Progress) × IsAt r left (hand_at s.desk s.actors s.table s.out) p × (p.epoch ≡ epoch)

abbrev pub MayGoOnAt : ℕ → List Act → Session → Type 0
MayGoOnAt epoch acts s = (r : Replay) × (more : Left) × HasRead epoch r (upon r acts more) s

abbrev pub GoesOnAt : ℕ → List Act → Session → Session → Type 0
GoesOnAt epoch acts before after = (r : Replay) (more : Left) → HasRead epoch r (upon r acts more) before → HasRead epoch r more after
