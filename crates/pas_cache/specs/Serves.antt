-- How a request of a class changes a cache, and what its block is.
use Rattle.std.specs.Prelude.{ℕ, ◌+◌, ◌*◌, ◌/◌, ◌^◌, ◌<◌, ◌≤◌, ◌%◌, ◌≡◌, true, ◌⊎◌, List, [], ◌∷◌, ◌++◌, length, Option, Some, Result, Ok, Err, MatchResult}
use Rattle.std.specs.List.{AllByRecursion}
use Rattle.pas_profile.specs.{Profiles.{IsPage, IsDirectoryOf}, Classes.{IsClass, IsSlotStart, class_size}, Blocks.{address_of, grain_of, length_of}}
use Rattle.pas_profile.specs.{Requests.{directory_for, is_shared, kind_of_class, route_in, room_in}, declared.directory.Directory.Directory}
use Rattle.pas_profile.specs.declared.{directory.{Kind.{Kind as TheKind, Kind}, Route.Route}, event.{Event.Event, NoRoom.NoRoom}, name.Block.Block}
use Rattle.pas_profile.specs.declared.profile.Profile.{Profile}
use Rattle.pas_bits.specs.{Runs.in_run, Masks.HasMember, declared.mask.Mask4.Mask4}
use Rattle.pas_steps.specs.{Views.{View, KnowsDeed}, Events.events_by, Agreement.Agreed, Lists.Whole, Evidence.{Readings, IsAntitone}, Calls.Leads, Kinds.Only}
use Rattle.pas_steps.specs.{Past.Always, Unknown.unknown_pages, declared.step.Made.Made}
use Rattle.pas_search.specs.{Kinds.{AreSearch, ReturnsDuly}, Searches.{search_steps, IsRefused}, Telling.IsTrueReason, Choices.TookChosen}
use Rattle.pas_core.specs.Fits.{HasNoFit}
use Rattle.pas_cache.specs.{Kinds.releasing, Locals.{local_for, others_than, RestsWith}, Caches.Cached, Changes.{GivesSlot, IsTakenOut, IsShortened}}
use Rattle.pas_segregated.specs.{Takes.{NoSlot, TookSlots}, Refills.{Filling, GivesSlots}, declared.slots.Slots.Slots}
use Rattle.pas_partial.specs.Rows.{rows}
use Rattle.pas_large.specs.{Allocates.{IsServedNamed, IsScanned}, Pages.claiming_old}
use Rattle.pas_bitfit.specs.{Allocates.{run_for, IsAllocated}, Runs.NoneFits}

-- ---- the route
-- a request is small: its route is a class or bit-fit pages
abbrev pub IsSmallRoute : Route → Type 0
IsSmallRoute (Route.Class class) = Unit {0}
IsSmallRoute Route.Bitfit = Unit {0}
IsSmallRoute Route.Large = ⊥

-- ---- the request
-- what a request comes to: the directory of its pages, its route, the room of its block, and at a multiple of what the block is
pub record Wanted : Type 0 where
  pub directory : Directory
  pub route : Route
  pub room : ℕ
  pub align : ℕ

abbrev pub wanted_for : Profile → ℕ → ℕ → ℕ → Wanted
wanted_for f heap size align = record { directory = directory_for f heap size align; route = route_in f size align; room = room_in f size align; align = align }

-- that of a class, in pages of this directory
abbrev pub class_wanted : Directory → ℕ → ℕ → Wanted
class_wanted d class align = record { directory = d; route = Route.Class class; room = class_size class; align = align }

-- ---- a bit-fit request
-- The pages of the directory were searched, and the block was given and its page left, or the search was refused. Nothing of the cache is changed.
pub record ServesBitfit (f : Profile) (wanted : Wanted) (c c' : Cached) (steps : List Made) (answer : Result Block NoRoom) : Type 0 where
  pub cache : c' ≡ c
  pub searched : List Made
  pub searches : AreSearch searched
  pub after : List Made
  pub outcome : MatchResult answer (IsAllocated f wanted.directory wanted.room wanted.align searched after)
      (λ room. IsRefused (NoneFits (run_for wanted.room wanted.align)) f wanted.directory searched room
      × (after ≡ []))
  pub steps_are : steps ≡ after ++ searched

-- ---- a request for whole pages
-- how many pages it takes
abbrev pub pages_of : Wanted → ℕ
pages_of wanted = wanted.room / 4096

-- The door named a run or none. The block was given on that run, without a deed, or what was tried with it was undone (nothing was, where none was named)
-- and the pages of the region were searched for a run that could be claimed: the block was given on it and its pages left, or the search was refused.
-- Nothing of the cache is changed.
pub record ServesPages (f : Profile) (wanted : Wanted) (found : Option ℕ) (c c' : Cached) (steps : List Made) (answer : Result Block NoRoom) : Type 0 where
  pub cache : c' ≡ c
  pub tried : List Made
  pub rest : List Made
  pub old : Only claiming_old tried
  pub returns : Always ReturnsDuly tried
  pub outcome : IsServedNamed f wanted.directory (pages_of wanted) found tried rest answer
      ⊎ IsScanned f wanted.directory (pages_of wanted) found tried rest answer
  pub steps_are : steps ≡ rest ++ tried

-- ---- slots are obtained
-- The local allocator of the heap and the class has a slot, and is taken out of the list without a step.
pub record FindsCached (heap class : ℕ) (locals fewer : List Slots) (slots : Slots) (steps : List Made) : Type 0 where
  pub cached : local_for heap class locals ≡ Some slots
  pub some : HasMember slots.starts
  pub fewer_are : fewer ≡ others_than heap class locals
  pub no_steps : steps ≡ []

-- no slot is cached for the heap and the class
abbrev pub HasNoneCached : ℕ → ℕ → List Slots → Type 0
HasNoneCached heap class locals = (slots : Slots) → local_for heap class locals ≡ Some slots → HasMember slots.starts → ⊥

-- No slot is cached: the local allocator of the heap and the class is taken out, and the list is shortened where it is full. At most 46 steps.
pub record MakesPlace (heap class : ℕ) (locals fewer : List Slots) (steps : List Made) : Type 0 where
  pub spent : List Made
  pub kept : List Slots
  pub taken : IsTakenOut heap class locals kept spent
  pub stopped : List Made
  pub shortened : IsShortened kept fewer stopped
  pub steps_are : steps ≡ stopped ++ spent
  pub few : length steps ≤ 46

-- how many steps a turn of a page of this kind takes at most
abbrev pub turn_of : TheKind → ℕ
turn_of (Kind.Class of) = 27
turn_of Kind.Shared = 15
turn_of Kind.Bitfit = 15
turn_of Kind.Large = 0

-- which slots a refill takes of a page: all that are free of an exclusive one, and of a shared one the lowest and up to three after it
abbrev pub took_in : TheKind → ℕ → ℕ → List Made → Mask4 → Type 0
took_in (Kind.Class of) class = TookSlots class
took_in Kind.Shared class = TookChosen (rows class)
took_in Kind.Bitfit class = λ page steps starts. ⊥
took_in Kind.Large class = λ page steps starts. ⊥

-- what a refill for the class is of, in pages of this directory
abbrev pub filling_in : Directory → ℕ → Filling
filling_in d class = record { directory = d; class = class; no_fit = NoSlot class; took = took_in d.kind class; steps = turn_of d.kind }

-- The directory is that of the class in its heap. Where nothing fits, nothing fits among fewer free grains.
pub record IsFilling (f : Profile) (fill : Filling) : Type 0 where
  pub directory : IsDirectoryOf f fill.directory
  pub class : IsClass fill.class
  pub home : fill.directory.kind ≡ kind_of_class (is_shared f fill.directory.heap) fill.class
  pub fewer : IsAntitone fill.no_fit

-- the steps of a refill, and the slots that it got: a search, and where it found slots of a shared page, the leave of that page
pub record IsRefill (fill : Filling) (f : Profile) (steps : List Made) (found : Result Slots NoRoom) : Type 0 where
  pub searched : List Made
  pub searches : AreSearch searched
  pub few : length searched ≤ search_steps fill.steps f.pages
  pub after : List Made
  pub outcome : MatchResult found (GivesSlots fill f searched after) (λ room. IsRefused fill.no_fit f fill.directory searched room × (after ≡ []))
  pub steps_are : steps ≡ after ++ searched

-- Place is made, after which the actor is at rest with what is left. Then the refill is made.
pub record Fetches (fill : Filling) (f : Profile) (locals fewer : List Slots) (steps : List Made) (found : Result Slots NoRoom) : Type 0 where
  pub before : List Made
  pub place : MakesPlace fill.directory.heap fill.class locals fewer before
  pub gives_back : Only releasing before
  pub rests : Leads f (RestsWith f locals) (λ v w. RestsWith f fewer w) before
  pub searched : List Made
  pub refill : IsRefill fill f searched found
  pub steps_are : steps ≡ searched ++ before

-- the slots of which one is given: cached ones, or those of a refill
abbrev pub IsObtained : Filling → Profile → List Slots → List Slots → List Made → Result Slots NoRoom → Type 0
IsObtained fill f locals fewer steps found =
    ((slots : Slots) × (found ≡ Ok slots) × FindsCached fill.directory.heap fill.class locals fewer slots steps)
    ⊎ Fetches fill f locals fewer steps found

-- ---- the content
-- The lowest of the slots is given, and the rest is the new local allocator at the end. A refusal is that of the refill.
abbrev pub IsAnswered : List Slots → List Slots → List Made → Result Slots NoRoom → Result Block NoRoom → Type 0
IsAnswered fewer locals' steps (Ok slots) (Ok block) = (rest : Slots) × GivesSlot slots rest block steps × (locals' ≡ fewer ++ rest ∷ [])
IsAnswered fewer locals' steps (Ok slots) (Err room) = ⊥
IsAnswered fewer locals' steps (Err why) (Ok block) = ⊥
IsAnswered fewer locals' steps (Err why) (Err room) = (room ≡ why) × (locals' ≡ fewer) × (steps ≡ [])

-- Slots are obtained, and one of them is given. So a request for which a slot is cached takes just the two steps of the give.
pub record ServesLocals (fill : Filling) (f : Profile) (locals locals' : List Slots) (steps : List Made) (answer : Result Block NoRoom) : Type 0 where
  pub found : Result Slots NoRoom
  pub fewer : List Slots
  pub before : List Made
  pub obtained : IsObtained fill f locals fewer before found
  pub given : List Made
  pub ends : IsAnswered fewer locals' given found answer
  pub steps_are : steps ≡ given ++ before

-- the local allocators serve the request, and the rest of the cache is as it was
pub record ServesClass (fill : Filling) (f : Profile) (c c' : Cached) (steps : List Made) (answer : Result Block NoRoom) : Type 0 where
  pub locals : ServesLocals fill f c.locals c'.locals steps answer
  pub cache : c' ≡ record c { locals = c'.locals }

abbrev pub ServesBy : Route → Profile → Wanted → Option ℕ → Cached → Cached → List Made → Result Block NoRoom → Type 0
ServesBy (Route.Class class) f wanted found c c' steps answer = ServesClass (filling_in wanted.directory class) f c c' steps answer
ServesBy Route.Bitfit f wanted found c c' steps answer = ServesBitfit f wanted c c' steps answer
ServesBy Route.Large f wanted found c c' steps answer = ServesPages f wanted found c c' steps answer

-- HOW A REQUEST IS SERVED, by its route, and by the run that a door named for it or None
abbrev pub ServesRequest : Profile → Wanted → Option ℕ → Cached → Cached → List Made → Result Block NoRoom → Type 0
ServesRequest f wanted found c c' steps answer = ServesBy wanted.route f wanted found c c' steps answer

-- ---- the block
-- what may be shown before a give: deeds of the request's directory, and backs
pub data IsPreparing (d : Directory) : Event → Type 0 where
  Deeds : (k page : ℕ) → IsPreparing d (Event.Deed k page d)
  Backs : (k page : ℕ) → IsPreparing d (Event.Back k page)

-- the block begins where a slot of the class does
pub record IsInSlot (class : ℕ) (block : Block) : Type 0 where
  pub page : ℕ
  pub start : ℕ
  pub is_start : IsSlotStart class start
  pub address : address_of block.name ≡ page * 4096 + start * 16

-- where the block stands, by its route: in a slot of the class, on one page, or from the first grain of a page on
abbrev pub IsPlaced : Route → Block → Type 0
IsPlaced (Route.Class class) block = IsInSlot class block
IsPlaced Route.Bitfit block = address_of block.name % 4096 + block.room ≤ 4096
IsPlaced Route.Large block = address_of block.name % 4096 ≡ 0

-- The block is of the heap and has the room that the request gets. It stands where its route puts it, on pages of the region, and at a multiple of
-- the alignment. Each page of its run is known to have the request's directory as its deed. It is given last, after deeds of this directory and
-- backs.
pub record IsBlockFor (f : Profile) (wanted : Wanted) (Meets : View → Type 0) (steps : List Made) (block : Block) : Type 0 where
  pub of_heap : block.heap ≡ wanted.directory.heap
  pub room : block.room ≡ wanted.room
  pub placed : IsPlaced wanted.route block
  pub aligned : address_of block.name % wanted.align ≡ 0
  pub of_region : (g : ℕ) → in_run (grain_of block.name) (length_of block) g ≡ true → IsPage f (g / 256)
  pub turn : Leads f Meets (λ v w. block.name.turn < 2 ^ 37) steps
  pub deeds : Leads f Meets (λ v w. (g : ℕ) → in_run (grain_of block.name) (length_of block) g ≡ true → KnowsDeed (g / 256) wanted.directory w) steps
  pub events : (k : ℕ) (v : View)
      → (before : List Event) × (events_by k v steps ≡ Event.Give k block ∷ before) × AllByRecursion (IsPreparing wanted.directory) before

-- Each deed that was made is one that the actor didn't know before. So the events, and the pages whose deed isn't known then, are at most n more
-- than the pages whose deed wasn't known before. At most one deed is made.
pub record IsFew (f : Profile) (n k : ℕ) (steps : List Made) (v : View) : Type 0 where
  pub paid : length (events_by k v steps) + unknown_pages f (steps ++ v) ≤ n + unknown_pages f v
  pub most : length (events_by k v steps) ≤ n + 1

abbrev pub MakesFew : Profile → (View → Type 0) → ℕ → List Made → Type 0
MakesFew f Meets n steps = (k : ℕ) (v : View) → Meets v → Agreed f v steps → IsFew f n k steps v

-- a deed of this directory
pub data IsDeedOf (d : Directory) : Event → Type 0 where
  Deeds : (k page : ℕ) → IsDeedOf d (Event.Deed k page d)

-- no event was made but deeds of this directory
abbrev pub MakesDeedsOf : Directory → List Made → Type 0
MakesDeedsOf d steps = (k : ℕ) (v : View) → AllByRecursion (IsDeedOf d) (events_by k v steps)

-- Each deed that was made is one that the actor didn't know before: the events, and the pages whose deed isn't known then, are at most n more than
-- the pages whose deed wasn't known before.
abbrev pub MakesAtMost : Profile → (View → Type 0) → ℕ → List Made → Type 0
MakesAtMost f Meets n steps = (k : ℕ) (v : View) → Meets v → Agreed f v steps → length (events_by k v steps) + unknown_pages f (steps ++ v) ≤ n + unknown_pages f v

-- no event was made
abbrev pub IsSilent : List Made → Type 0
IsSilent steps = (k : ℕ) (v : View) → events_by k v steps ≡ []

-- ---- on a desk that tells the whole state
-- a slot is cached for the request
abbrev pub HasCached : Route → ℕ → List Slots → Type 0
HasCached (Route.Class class) heap locals = (slots : Slots) × (local_for heap class locals ≡ Some slots) × HasMember slots.starts
HasCached Route.Bitfit heap locals = ⊥
HasCached Route.Large heap locals = ⊥

-- nothing fits the request of a page whose grains were read so
abbrev pub no_fit_by : Route → ℕ → ℕ → Readings → Type 0
no_fit_by (Route.Class class) room align = NoSlot class
no_fit_by Route.Bitfit room align = NoneFits (run_for room align)
no_fit_by Route.Large room align = λ readings. ⊥

abbrev pub no_fit_for : Wanted → Readings → Type 0
no_fit_for wanted = no_fit_by wanted.route wanted.room wanted.align

-- Where the request is refused, no slot was cached and no page could serve at entry, nor can one at exit, and the reason is true at exit. So a
-- request is served wherever a slot is cached, an offered page fits or a page has no deed.
pub record IsTrueRefusal (f : Profile) (wanted : Wanted) (locals : List Slots) (entry exit : Whole) (room : NoRoom) : Type 0 where
  pub cached : HasCached wanted.route wanted.directory.heap locals → ⊥
  pub entry_fit : HasNoFit (no_fit_for wanted) f wanted.directory entry
  pub exit_fit : HasNoFit (no_fit_for wanted) f wanted.directory exit
  pub reason : IsTrueReason f wanted.directory exit room

abbrev pub IsToldBy : {A : Type 0} → Profile → Wanted → List Slots → Whole → Whole → Result A NoRoom → Type 0
IsToldBy f wanted locals entry exit answer = MatchResult answer (λ found. Unit {0}) (IsTrueRefusal f wanted locals entry exit)
