-- What the calls of a cache promise.
use Rattle.std.specs.Prelude.{ℕ, ◌+◌, ◌*◌, ◌≤◌, ◌≡◌, Bool, true, List, [], ◌∷◌, ◌++◌, length, Option, None, Result, Ok, Err, MatchResult}
use Rattle.pas_profile.specs.declared.{event.{FreeFault.FreeFault, NoRoom.NoRoom, Range.Range}, directory.Route.Route, name.{Name.Name, Block.Block}}
use Rattle.pas_profile.specs.declared.{profile.Profile.Profile, word.Word.Word, entry.Entry.Entry}
use Rattle.pas_steps.specs.{Views.View, Events.events_by, Lists.Whole, Calls.Calls, Desks.{Standing, triples, made}, Unknown.{HasRoom, unknown_pages}}
use Rattle.pas_steps.specs.{Clear.HasNothing, Kinds.Only, declared.step.{Made.Made, Step.TheVariants.Look}}
use Rattle.pas_large.specs.{Named.missed_steps, Telling.IsToldByDoor}
use Rattle.pas_search.specs.Searches.{search_steps}
use Rattle.pas_free_log.specs.declared.noting.EndedRun.{EndedRun}
use Rattle.pas_cache.specs.{Caches.{Cached, AtRest}, Names.{IsInRegion, IsFaultOf}, Changes.{EmptiesLog, LogsEntry, StopsEach}, Kinds.{releasing, allocating}}
use Rattle.pas_cache.specs.{Contents.{with_log, with_noted_alone}, Serves.{Wanted, turn_of, HasCached, ServesRequest, IsBlockFor, pages_of, MakesFew}}
use Rattle.pas_cache.specs.Serves.{MakesAtMost, MakesDeedsOf, IsSilent, IsToldBy}

-- an actor at rest with the one cache is at rest with the other after these steps
abbrev pub Rests : Cached → Cached → Standing → Standing → List Made → Type 0
Rests c c' desk desk' steps = Calls desk desk' (AtRest desk.seat.profile c) (λ v w. AtRest desk.seat.profile c' w) steps

-- ---- begin
-- one look at the epoch, which is remembered; nothing else changes
pub record Begins (c c' : Cached) (desk desk' : Standing) : Type 0 where
  pub epoch : ℕ
  pub cache : c' ≡ record c { idle_since = epoch }
  pub calls : Rests c c' desk desk' (made (Look Word.Epoch) epoch ∷ [])

-- ---- alloc
-- the actor is at rest, and there is room for two events, and for one more where the deed of some page isn't known
pub record MayAllocate (f : Profile) (c : Cached) (spare : ℕ) (v : View) : Type 0 where
  pub rest : AtRest f c v
  pub room : HasRoom f 2 spare v

-- The cache serves the request, and its actor is at rest again. At most 46 steps make place, those of a search follow, and at most 13 leave a page and
-- give the block. Where a slot is cached there are two steps. A refused request made no event, so no
-- block changed.
pub record Allocates (wanted : Wanted) (tells : Bool) (c c' : Cached) (desk desk' : Standing) (answer : Result Block NoRoom) : Type 0 where
  pub steps : List Made
  pub calls : Rests c c' desk desk' steps
  pub change : ServesRequest desk.seat.profile wanted None c c' steps answer
  pub kinds : Only allocating steps
  pub short : length steps ≤ 59 + search_steps (turn_of wanted.directory.kind) desk.seat.profile.pages
  pub two : HasCached wanted.route wanted.directory.heap c.locals → length steps ≡ 2
  pub few : MakesFew desk.seat.profile (AtRest desk.seat.profile c) 2 steps
  pub outcome : MatchResult answer (IsBlockFor desk.seat.profile wanted (AtRest desk.seat.profile c) steps) (λ room. IsSilent steps)
  pub told : tells ≡ true → (v : View) (l : Whole) → desk.stands v l → AtRest desk.seat.profile c v
      → IsToldBy desk.seat.profile wanted c.locals l (triples desk.seat.actor steps ++ l) answer

-- ---- alloc_large
-- the actor is at rest, and there is room for an event a page, one more, and the deeds that aren't known
pub record MayAllocatePages (f : Profile) (c : Cached) (n spare : ℕ) (v : View) : Type 0 where
  pub rest : AtRest f c v
  pub room : n + 1 + unknown_pages f v ≤ spare

-- how many events a request for n pages makes at most, beside the deeds that weren't known
abbrev pub most_events : ℕ → Result Block NoRoom → ℕ
most_events n (Ok block) = n + 1
most_events n (Err room) = 0

-- The run that the door named or the search for one serves the request, the cache is as it was, and its actor is at rest again. The events are deeds of
-- the directory that weren't known, and where the block is given backs after them, one for each page at most, and last the give. At most 56 steps for each
-- page of the region, 12 for each page that is asked for, and 66 more, and where a run was named 48 more for each page that is asked for. On a desk that
-- tells the whole state the block is on the run that was named wherever its pages are whole at entry, in at most 18 steps for each page and two more. In every
-- other case it is on the lowest run of usable pages at entry, and a refusal comes only where there is none then and none at exit, with its true reason.
pub record AllocatesPages (wanted : Wanted) (found : Option ℕ) (tells : Bool) (c c' : Cached) (desk desk' : Standing) (answer : Result Block NoRoom) : Type 0 where
  pub steps : List Made
  pub calls : Rests c c' desk desk' steps
  pub change : ServesRequest desk.seat.profile wanted found c c' steps answer
  pub kinds : Only allocating steps
  pub short : length steps ≤ 56 * desk.seat.profile.pages + 12 * pages_of wanted + missed_steps found (pages_of wanted) + 66
  pub few : MakesAtMost desk.seat.profile (AtRest desk.seat.profile c) (most_events (pages_of wanted) answer) steps
  pub outcome : MatchResult answer (IsBlockFor desk.seat.profile wanted (AtRest desk.seat.profile c) steps) (λ room. MakesDeedsOf wanted.directory steps)
  pub told : tells ≡ true → (v : View) (l : Whole) → desk.stands v l → AtRest desk.seat.profile c v
      → IsToldByDoor desk.seat.profile wanted.directory (pages_of wanted) found l (triples desk.seat.actor steps ++ l) steps answer

-- ---- serve
-- What is known of the run that was named for a request of this route: the door's answer where the request is for whole pages. For another request the
-- door isn't asked: none is named, and it is so of the door that nothing changed.
abbrev pub IsNamed : Route → (Option ℕ → Type 0) → Type 0 → Option ℕ → Type 0
IsNamed (Route.Class class) Answers Same found = (found ≡ None) × Same
IsNamed Route.Bitfit Answers Same found = (found ≡ None) × Same
IsNamed Route.Large Answers Same found = Answers found

-- the actor may make a request of this route, for n pages where it is for whole ones, and what it comes to
abbrev pub MayRequestBy : Route → Profile → Cached → ℕ → ℕ → View → Type 0
MayRequestBy (Route.Class class) f c n spare v = MayAllocate f c spare v
MayRequestBy Route.Bitfit f c n spare v = MayAllocate f c spare v
MayRequestBy Route.Large f c n spare v = MayAllocatePages f c n spare v

abbrev pub AllocatesBy : Route → Wanted → Option ℕ → Bool → Cached → Cached → Standing → Standing → Result Block NoRoom → Type 0
AllocatesBy (Route.Class class) wanted found tells c c' desk desk' answer = Allocates wanted tells c c' desk desk' answer
AllocatesBy Route.Bitfit wanted found tells c c' desk desk' answer = Allocates wanted tells c c' desk desk' answer
AllocatesBy Route.Large wanted found tells c c' desk desk' answer = AllocatesPages wanted found tells c c' desk desk' answer

-- the actor is at rest, and there is room for the request's events
abbrev pub MayRequest : Profile → Wanted → Cached → ℕ → View → Type 0
MayRequest f wanted c spare v = MayRequestBy wanted.route f c (pages_of wanted) spare v

-- A request goes by its route, with the run that the door named for it or none.
pub record AllocatesRequest (Answers : Option ℕ → Type 0) (Same : Type 0) (wanted : Wanted) (tells : Bool) (c c' : Cached) (desk desk' : Standing) (answer : Result Block NoRoom) : Type 0 where
  pub found : Option ℕ
  pub named : IsNamed wanted.route Answers Same found
  pub allocates : AllocatesBy wanted.route wanted found tells c c' desk desk' answer

-- ---- settle
-- each of the runs was handed on, in order, and the index changed by each
abbrev pub SettlesEach : {Door : Type 0} → (Door → Door → ℕ → Range → Type 0) → List EndedRun → Door → Door → Type 0
SettlesEach Settles [] door door' = door' ≡ door
SettlesEach {Door} Settles (run ∷ rest) door door' = (next : Door) × Settles door next run.heap run.range × SettlesEach Settles rest next door'

-- ---- free
-- a fault changes nothing
pub record RefusesName (f : Profile) (c c' : Cached) (name : Name) (steps : List Made) (fault : FreeFault) : Type 0 where
  pub fault_is : IsFaultOf f name fault
  pub cache : c' ≡ c
  pub no_steps : steps ≡ []

-- otherwise the name is logged, after a full log was emptied
pub record TakesEntry (f : Profile) (actor : ℕ) (c c' : Cached) (entry : Entry) (steps : List Made) : Type 0 where
  pub region : IsInRegion f entry.name
  pub logs : LogsEntry actor c.log c'.log c.noted c'.noted entry steps
  pub cache : c' ≡ with_log c c'.log c'.noted

pub record Frees (entry : Entry) (c c' : Cached) (desk desk' : Standing) (answer : Result (Unit {0}) FreeFault) : Type 0 where
  pub steps : List Made
  pub calls : Rests c c' desk desk' steps
  pub outcome : MatchResult answer (λ done. TakesEntry desk.seat.profile desk.seat.actor c c' entry steps) (RefusesName desk.seat.profile c c' entry.name steps)

-- ---- flush and stop
pub record FlushesLog (c c' : Cached) (desk desk' : Standing) : Type 0 where
  pub steps : List Made
  pub calls : Rests c c' desk desk' steps
  pub empties : EmptiesLog desk.seat.actor c.log c.noted c'.noted steps
  pub cache : c' ≡ with_log c [] c'.noted

-- The log is emptied, and then each local allocator is stopped. The cache is empty then, so the actor holds and has nothing. The stops make no
-- event and stamp no page.
pub record StopsCache (c c' : Cached) (desk desk' : Standing) : Type 0 where
  pub flushed : List Made
  pub stopped : List Made
  pub calls : Calls desk desk' (AtRest desk.seat.profile c) (λ v w. AtRest desk.seat.profile c' w × HasNothing w) (stopped ++ flushed)
  pub empties : EmptiesLog desk.seat.actor c.log c.noted c'.noted flushed
  pub stops : StopsEach c.locals stopped
  pub kinds : Only releasing stopped
  pub silent : (k : ℕ) (v : View) → events_by k v stopped ≡ []
  pub cache : c' ≡ with_noted_alone c c'.noted
