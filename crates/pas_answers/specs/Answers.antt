-- Which steps and records answer an operation, and how far a replay has come after an act.
use Rattle.std.specs.Prelude.{ℕ, ◌+◌, ◌/◌, ◌%◌, ◌≡◌, ◌<◌, ◌≤◌, ◌==◌, ◌⊎◌, true, false, if◌then◌else◌, List, [], ◌∷◌, ◌++◌, map, max, reverse, Option, None}
use Rattle.std.specs.{Prelude.{Some, Result, Ok, Err, MatchResult}, List.AllByRecursion}
use Rattle.pas_profile.specs.declared.{directory.{Directory.Directory, Route.Route}, profile.Profile.Profile, name.{Name.Name, Block.Block}, word.Word.Word}
use Rattle.pas_profile.specs.declared.event.{Event.Event, FreeFault.{FreeFault, TheVariants.{Outside, Unaligned}}, Outcome.Outcome, NoRoom.NoRoom}
use Rattle.pas_profile.specs.{declared.{event.NoRoom.TheVariants.{NoSpace, Held}, entry.Entry.Entry, guard.Guard.Guard}, Blocks.{address_of, grain_of}}
use Rattle.pas_profile.specs.{Blocks.length_of, Entries.{entry_of, sized_entry}}
use Rattle.pas_bits.specs.Runs.{in_run}
use Rattle.pas_steps.specs.{Views.{View, KnowsDeed}, Events.events_by, Lists.{Whole, part}, Desks.{made, triples}, Kinds.Only, declared.step.Made.Made}
use Rattle.pas_steps.specs.declared.step.Step.{TheVariants.Look, Step}
use Rattle.pas_trace.specs.declared.plan.What.{What, TheVariants.{Alloc, Guarded, Free, FreeSized, Raw, RawSized, Remake, Flush, Stop, Tick, Pass, Idle}}
use Rattle.pas_trace.specs.declared.item.Request.{Request}
pub use Rattle.pas_trace.specs.Named.{Named, named, standing_for, suits, request_for}
use Rattle.pas_records.specs.declared.record.{Record.Record, Said.Said}
use Rattle.pas_cache.specs.{Caches.{Cached, AtRest}, Changes.{EmptiesLog, StopsEach}, Kinds.{allocating, releasing}, Calls.{TakesEntry, RefusesName}}
use Rattle.pas_cache.specs.Serves.{Wanted, wanted_for, ServesRequest, IsPreparing, IsPlaced, IsDeedOf}
use Rattle.pas_answers.specs.PassRecords.{records_of_pass}

-- ---- what the caches hold, by thread
abbrev pub Caches : Type 0
Caches = ℕ → Cached

-- that of thread k has become c
abbrev pub with_cache : Caches → ℕ → Cached → Caches
with_cache caches k c j = if j == k then c else caches j

-- ---- the guards that the keepers have up, by keeper
abbrev pub Books : Type 0
Books = ℕ → List Guard

-- those of this keeper have become these
abbrev pub with_book : Books → ℕ → List Guard → Books
with_book books k guards j = if j == k then guards else books j

-- ---- one operation
-- what an actor has before it: what the names stand for, the actor's view, and what its cache holds
pub record Having : Type 0 where
  pub names : List Named
  pub view : View
  pub cache : Cached

abbrev pub having : List Named → View → Cached → Having
having names v c = record { names = names; view = v; cache = c }

-- an answer: its steps, what is said besides, the run of pages that was named for it where it is a request for whole ones, and then what the names stand for
-- and what the cache holds
pub record Answer : Type 0 where
  pub steps : List Made
  pub said : Option Said
  pub found : Option ℕ
  pub names : List Named
  pub cache : Cached

abbrev pub answer_of : List Made → Option Said → Option ℕ → List Named → Cached → Answer
answer_of steps said found names c = record { steps = steps; said = said; found = found; names = names; cache = c }

-- ---- records
-- those of steps: their events in the order in which they were made
abbrev pub records_of : List Event → List Record
records_of es = map Record.Event (reverse es)

-- .. and what is said besides
abbrev pub said_by : ℕ → Option Said → List Record
said_by k None = []
said_by k (Some said) = Record.Said k said ∷ []

-- ---- a request
-- what is said where it was refused
abbrev pub said_of_room : ℕ → NoRoom → Said
said_of_room name NoSpace = Said.NoSpace name
said_of_room name (Held page) = Said.Held page name

abbrev pub said_of_request : ℕ → Result Block NoRoom → Option Said
said_of_request name (Ok block) = None
said_of_request name (Err room) = Some (said_of_room name room)

-- the block that its name stands for from then on
abbrev pub block_of : Result Block NoRoom → Option Block
block_of (Ok block) = Some block
block_of (Err room) = None

-- what it comes to for the caches
abbrev pub wanted_by : Profile → Request → Wanted
wanted_by f r = wanted_for f r.heap r.size r.align

-- The block that actor k gave with these steps after the view is of the heap, has the room that the request gets, stands where its route puts it, and at a multiple of the
-- alignment. Each page of its run is known to have the request's directory as its deed then. It was given last, after deeds of this directory and backs.
pub record IsGiven (k : ℕ) (wanted : Wanted) (v : View) (steps : List Made) (block : Block) : Type 0 where
  pub of_heap : block.heap ≡ wanted.directory.heap
  pub room : block.room ≡ wanted.room
  pub placed : IsPlaced wanted.route block
  pub aligned : address_of block.name % wanted.align ≡ 0
  pub of_directory : (g : ℕ) → in_run (grain_of block.name) (length_of block) g ≡ true → KnowsDeed (g / 256) wanted.directory (steps ++ v)
  pub before : List Event
  pub events : events_by k v steps ≡ Event.Give k block ∷ before
  pub prepared : AllByRecursion (IsPreparing wanted.directory) before

-- A refused request makes no event. One for whole pages may have made deeds of pages of runs that broke, which stay.
abbrev pub RefusalEnds : Route → Directory → List Event → Type 0
RefusalEnds (Route.Class class) d es = es ≡ []
RefusalEnds Route.Bitfit d es = es ≡ []
RefusalEnds Route.Large d es = AllByRecursion (IsDeedOf d) es

abbrev pub RequestEnds : ℕ → Wanted → View → List Made → Result Block NoRoom → Type 0
RequestEnds k wanted v steps served = MatchResult served (IsGiven k wanted v steps) (λ room. RefusalEnds wanted.route wanted.directory (events_by k v steps))

-- Actor k is at rest with its cache, which serves the request, or refuses it with the evidence of its search: with the run of pages that was named for it, or
-- none. Only a flush stamps pages, and none is made. From then on the name stands for the block, or for nothing.
pub record IsServed (f : Profile) (k : ℕ) (r : Request) (before : Having) (after : Answer) : Type 0 where
  pub rest : AtRest f before.cache before.view
  pub answer : Result Block NoRoom
  pub serves : ServesRequest f (wanted_by f r) after.found before.cache after.cache after.steps answer
  pub kinds : Only allocating after.steps
  pub ends : RequestEnds k (wanted_by f r) before.view after.steps answer
  pub said_is : after.said ≡ said_of_request r.name answer
  pub names_are : after.names ≡ named r.name (block_of answer) ∷ before.names

-- ---- a free
abbrev pub said_of_fault : Name → FreeFault → Said
said_of_fault name Outside = Said.Outside name
said_of_fault name Unaligned = Said.Unaligned name

-- the room that an entry notes of a free that names this one, or none
abbrev pub room_noted : Option ℕ → ℕ
room_noted None = 0
room_noted (Some room) = room

-- the entry of a name, with the room that its free names, if any
abbrev pub entry_with : Name → Option ℕ → Entry
entry_with name room = sized_entry name (room_noted room)

-- the entry is logged, after a full log was emptied; or its name can't be any block's, which is said
abbrev pub IsFreed : Profile → ℕ → Cached → Cached → Entry → List Made → Option Said → Type 0
IsFreed f k c c' entry steps said =
    (TakesEntry f k c c' entry steps × (said ≡ None))
    ⊎ ((fault : FreeFault) × RefusesName f c c' entry.name steps fault × (said ≡ Some (said_of_fault entry.name fault)))

-- what a free by a name of the trace comes to, which may name a room: the name was never asked for (which no trace has), its request was refused, or it
-- stands for a block
abbrev pub IsFreedBy : Profile → ℕ → Cached → Cached → ℕ → Option ℕ → Option (Option Block) → List Made → Option Said → Type 0
IsFreedBy f k c c' name room None steps said = ⊥
IsFreedBy f k c c' name room (Some None) steps said = (steps ≡ []) × (c' ≡ c) × (said ≡ Some (Said.Skipped name))
IsFreedBy f k c c' name room (Some (Some block)) steps said = IsFreed f k c c' (entry_with block.name room) steps said

-- ---- another size for a block
-- The block suits the request as it is: nothing is done, which is said, and the new name stands for it as the old one does.
pub record IsKept (r : Request) (old : Block) (before : Having) (after : Answer) : Type 0 where
  pub suited : suits old r.size r.align ≡ true
  pub no_steps : after.steps ≡ []
  pub cache : after.cache ≡ before.cache
  pub said_is : after.said ≡ Some (Said.Kept old.name r.name)
  pub names_are : after.names ≡ named r.name (Some old) ∷ before.names

-- It doesn't suit. The request for another block of its heap is answered as any request is. Where it is served, the old name is logged then, without a room,
-- as the last one; where it is refused, nothing is logged, and the old name stands for its block as before.
pub record IsReplaced (f : Profile) (k : ℕ) (r : Request) (old : Block) (before : Having) (after : Answer) : Type 0 where
  pub unsuited : suits old r.size r.align ≡ false
  pub of_region : r.heap < f.heaps
  pub placed : Answer
  pub served : IsServed f k r before placed
  pub freed : List Made
  pub logged : MatchResult served.answer (λ block. TakesEntry f k placed.cache after.cache (entry_of old.name) freed) (λ room. (freed ≡ [])
      × (after.cache ≡ placed.cache))
  pub steps_are : after.steps ≡ freed ++ placed.steps
  pub said_is : after.said ≡ placed.said
  pub found_is : after.found ≡ placed.found
  pub names_are : after.names ≡ placed.names

-- what a reallocation comes to, where the old name was never asked for (which no trace has), where its own request was refused, so that the new name counts as
-- refused too, or where it stands for a block
abbrev pub IsRemadeBy : Profile → ℕ → ℕ → ℕ → ℕ → Option (Option Block) → Having → Answer → Type 0
IsRemadeBy f k name size align None b a = ⊥
IsRemadeBy f k name size align (Some None) b a = (a.steps ≡ []) × (a.cache ≡ b.cache) × (a.said ≡ Some (Said.Skipped name)) × (a.names ≡ named name None ∷ b.names)
IsRemadeBy f k name size align (Some (Some old)) b a = IsKept (request_for old name size align) old b a ⊎ IsReplaced f k (request_for old name size align) old b a

-- ---- a flush and a stop
pub record IsFlushed (k : ℕ) (c c' : Cached) (steps : List Made) : Type 0 where
  pub empties : EmptiesLog k c.log c.noted c'.noted steps
  pub cache : c' ≡ record c { log = []; noted = c'.noted }

-- the log is emptied, then each local allocator is stopped, without an event, and nothing is cached then
pub record IsStopped (k : ℕ) (c c' : Cached) (steps : List Made) : Type 0 where
  pub flushed : List Made
  pub stopped : List Made
  pub empties : EmptiesLog k c.log c.noted c'.noted flushed
  pub stops : StopsEach c.locals stopped
  pub kinds : Only releasing stopped
  pub silent : (v : View) → events_by k v stopped ≡ []
  pub cache : c' ≡ record c { locals = []; log = []; noted = c'.noted }
  pub steps_are : steps ≡ stopped ++ flushed

-- ---- operations and acts
-- An operation of thread k is answered so. Those of the scavenger are acts of their own. A guarded request that its thread serves is answered as any is.
abbrev pub IsAnswered : Profile → ℕ → What → Having → Answer → Type 0
IsAnswered f k (Alloc name heap size align) b a = IsServed f k (record { name = name; heap = heap; size = size; align = align }) b a
IsAnswered f k (Guarded keeper name heap size align) b a = IsServed f k (record { name = name; heap = heap; size = size; align = align }) b a
IsAnswered f k (Free name) b a = IsFreedBy f k b.cache a.cache name None (standing_for b.names name) a.steps a.said × (a.names ≡ b.names)
IsAnswered f k (FreeSized name room) b a = IsFreedBy f k b.cache a.cache name (Some room) (standing_for b.names name) a.steps a.said × (a.names ≡ b.names)
IsAnswered f k (Raw block) b a = IsFreed f k b.cache a.cache (entry_of block) a.steps a.said × (a.names ≡ b.names)
IsAnswered f k (RawSized room block) b a = IsFreed f k b.cache a.cache (sized_entry block room) a.steps a.said × (a.names ≡ b.names)
IsAnswered f k (Remake name old heap size align) b a = IsRemadeBy f k name size align (standing_for b.names old) b a
IsAnswered f k Flush b a = IsFlushed k b.cache a.cache a.steps × (a.said ≡ None) × (a.names ≡ b.names)
IsAnswered f k Stop b a = IsStopped k b.cache a.cache a.steps × (a.said ≡ None) × (a.names ≡ b.names)
IsAnswered f k (Tick e) b a = ⊥
IsAnswered f k Pass b a = ⊥
IsAnswered f k (Idle n) b a = ⊥

-- the cache after its thread read this epoch at the start of a phase
abbrev pub begun : Cached → ℕ → Cached
begun c epoch = record { locals = c.locals; log = c.log; noted = c.noted; idle_since = epoch }

-- .. and after the runs that it noted were handed on
abbrev pub settled : Cached → Cached
settled c = record { locals = c.locals; log = c.log; noted = []; idle_since = c.idle_since }

-- how far a replay has come: what the names stand for, what the caches hold, which guards are up, the epoch that the scavenger read last for an idle operation,
-- the list of the steps, and the records
pub record Progress : Type 0 where
  pub names : List Named
  pub caches : Caches
  pub books : Books
  pub epoch : ℕ
  pub list : Whole
  pub records : List Record

-- .. with records more at the end
abbrev pub with_records : Progress → List Record → Progress
with_records p rs = record p { records = p.records ++ rs }

-- .. after actor k's steps, whose cache holds c then
abbrev pub with_steps : Progress → ℕ → List Made → Cached → Progress
with_steps p k steps c = record p { caches = with_cache p.caches k c; list = triples k steps ++ p.list }

-- .. after steps of the scavenger, which has no cache
abbrev pub with_scavenged : Progress → List Made → Progress
with_scavenged p steps = record p { list = triples 0 steps ++ p.list }

-- ---- each kind of act
-- a thread's operation was answered
abbrev pub after_answer : Progress → ℕ → Answer → Progress
after_answer p k a = with_records (record (with_steps p k a.steps a.cache) { names = a.names }) (records_of (events_by k (part k p.list) a.steps) ++ said_by k a.said)

-- what thread k's cache noted is handed on
abbrev pub after_settling : Progress → ℕ → Progress
after_settling p k = record p { caches = with_cache p.caches k (settled (p.caches k)) }

-- one look at the epoch
abbrev pub epoch_look : ℕ → List Made
epoch_look epoch = made (Look Word.Epoch) epoch ∷ []

abbrev pub after_wake : Progress → ℕ → ℕ → Progress
after_wake p k epoch = with_steps p k (epoch_look epoch) (begun (p.caches k) epoch)

abbrev pub after_reading : Progress → ℕ → Progress
after_reading p epoch = record (with_scavenged p (epoch_look epoch)) { epoch = epoch }

-- the epoch was raised by one step; what is said is the epoch after it
abbrev pub after_tick : Progress → ℕ → ℕ → Progress
after_tick p asked answer = with_records (with_scavenged p (made (Step.Tick asked) answer ∷ [])) (Record.Said 0 (Said.Tick (max answer asked)) ∷ [])

abbrev pub after_pass : Progress → ℕ → List (ℕ × Outcome) → List Made → Progress
after_pass p epoch found steps = with_records (with_scavenged p steps) (records_of_pass 0 epoch found)

-- thread k was stopped, and this is said besides the events of its flush
abbrev pub after_stop : Progress → ℕ → List Made → Cached → List Record → Progress
after_stop p k steps c said = with_records (with_steps p k steps c) (records_of (events_by k (part k p.list) steps) ++ said)

-- the scavenger says that it stopped thread k
abbrev pub stopped : ℕ → List Record
stopped k = Record.Said 0 (Said.Stopped k) ∷ []

-- thread k was idle for n epochs when the scavenger read the epoch
abbrev pub IsIdleFor : Progress → ℕ → ℕ → Type 0
IsIdleFor p k n = (p.caches k).idle_since + n ≤ p.epoch
