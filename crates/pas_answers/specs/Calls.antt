-- What one operation asks and promises.
use Rattle.std.specs.Prelude.{ℕ, ◌+◌, ◌-◌, ◌^◌, ◌<◌, ◌≤◌, ◌≡◌, true, false, List, [], ◌∷◌, ◌++◌, length, Option, None, Some, MatchOption, option_and_then}
use Rattle.std.specs.Prelude.{Result, Ok, Err, MatchResult}
use Rattle.pas_profile.specs.declared.{profile.Profile.Profile, event.NoRoom.NoRoom, name.Block.Block, entry.Entry.Entry}
use Rattle.pas_steps.specs.{Views.View, Agreement.Agreed, Events.events_by, Lists.Whole, Desks.Standing, Kinds.Only, Unknown.unknown_pages}
use Rattle.pas_steps.specs.declared.step.Made.{Made}
use Rattle.pas_trace.specs.{Asked.{request_in, freed_in}, EveryPlan.{is_asked, IsRoomNamed}, declared.plan.What.{What, TheVariants.{Alloc, Guarded, Free}}}
use Rattle.pas_trace.specs.declared.{plan.{What.TheVariants.{FreeSized, Raw, RawSized, Remake, Flush, Stop}, Task.Task}, item.Request.Request}
use Rattle.pas_records.specs.{Rooms.{records_in, room_of, Records}, declared.record.Said.Said}
use Rattle.pas_cache.specs.{Caches.{Cached, AtRest}, Calls.Rests, Names.IsInRegion, Kinds.allocating, Serves.{Wanted, ServesRequest, IsBlockFor, MakesAtMost}}
use Rattle.pas_answers.specs.{Answers.{having, answer_of, Named, named, standing_for, IsFreed, IsAnswered, RefusalEnds, records_of, said_by}, Fit.cost_of_what}
use Rattle.pas_answers.specs.{Names.block_named, declared.names.Names.Names}

-- ---- the operation that asks its thread for this
abbrev pub what_of : Task → What
what_of (Task.Request name heap size align) = Alloc name heap size align
what_of (Task.Guarded keeper name heap size align) = Guarded keeper name heap size align
what_of (Task.Free name None) = Free name
what_of (Task.Free name (Some room)) = FreeSized name room
what_of (Task.FreeRaw block None) = Raw block
what_of (Task.FreeRaw block (Some room)) = RawSized room block
what_of (Task.Remake name old heap size align) = Remake name old heap size align
what_of Task.Flush = Flush
what_of Task.Stop = Stop

-- ---- the table of names
-- the block that a name stands for, where it stands for one
abbrev pub block_behind : Option (Option Block) → Option Block
block_behind None = None
block_behind (Some block) = block

-- the table says of each name what it stands for
abbrev pub Tells : Names → List Named → Type 0
Tells table names = (n : ℕ) → block_named table n ≡ block_behind (standing_for names n)

-- A block as one may be freed or replaced: its address is a multiple of 16 on a page of the region, its room is one that a free may name, its heap is one of
-- the region's, and its turn has a next one.
pub record IsBlockOf (f : Profile) (block : Block) : Type 0 where
  pub region : IsInRegion f block.name
  pub room : IsRoomNamed f (Some block.room)
  pub heap : block.heap < f.heaps
  pub turn : block.name.turn < 2 ^ 40 - 1

-- what a name may stand for: nothing, or such a block
abbrev pub MayStand : Profile → Option Block → Type 0
MayStand f found = (block : Block) → found ≡ Some block → IsBlockOf f block

-- .. each name of the table
abbrev pub AllMayStand : Profile → Names → Type 0
AllMayStand f table = (n : ℕ) → MayStand f (block_named table n)

-- the names that were asked for stand for something
abbrev pub AreKnown : List ℕ → List Named → Type 0
AreKnown asked names = (n : ℕ) → is_asked asked n ≡ true → (block : Option Block) × (standing_for names n ≡ Some block)

-- a name that wasn't asked for stands for nothing
abbrev pub OnlyAsked : List ℕ → List Named → Type 0
OnlyAsked asked names = (n : ℕ) → is_asked asked n ≡ false → standing_for names n ≡ None

-- a name that is freed or reallocated was asked for
abbrev pub IsKnown : List Named → What → Type 0
IsKnown names what = MatchOption (freed_in what) (Unit {0}) (λ name. (block : Option Block) × (standing_for names name ≡ Some block))

-- the name that the operation frees or reallocates stands for this
abbrev pub IsMeant : List Named → What → Option Block → Type 0
IsMeant names what meant = MatchOption (freed_in what) (Unit {0}) (λ name. block_behind (standing_for names name) ≡ meant)

-- the name that the operation asks for, with what it came to
abbrev pub named_with : Option Request → Option Block → List Named
named_with None came = []
named_with (Some request) came = named request.name came ∷ []

abbrev pub named_by : What → Option Block → List Named
named_by what came = named_with (request_in what) came

-- what the name that the operation frees or reallocates stands for, by what each name stands for
abbrev pub freed_by : (ℕ → Option Block) → What → Option Block
freed_by block what = option_and_then block (freed_in what)

-- ---- what is owed in the end
-- The events that an actor may still make without another request: one for the deed of each page that it doesn't know, and one for each logged
-- name. An operation makes at most its cost more.
abbrev pub owed_events : Profile → Cached → View → ℕ
owed_events f c v = unknown_pages f v + length c.log

-- ---- an operation
-- the actor is at rest with its cache, and there is room for the events of the operation and those that are owed
pub record MayPerform (f : Profile) (c : Cached) (what : What) (spare : ℕ) (v : View) : Type 0 where
  pub rest : AtRest f c v
  pub room : cost_of_what what + owed_events f c v ≤ spare

-- The steps and what is said answer the operation, with the run that was named for it, of which the freed name stands for `meant`, and the asked one for
-- `came` from then on. The actor is at rest again. The events and what is said are paid for.
pub record PerformsMeant (what : What) (meant came : Option Block) (c c' : Cached) (desk desk' : Standing) (said : Option Said) : Type 0 where
  pub steps : List Made
  pub found : Option ℕ
  pub calls : Rests c c' desk desk' steps
  pub few : (v : View) → AtRest desk.seat.profile c v → Agreed desk.seat.profile v steps
      → length (events_by desk.seat.actor v steps) + length (said_by desk.seat.actor said) + owed_events desk.seat.profile c' (steps ++ v)
      ≤ cost_of_what what + owed_events desk.seat.profile c v
  pub answered : (v : View) (l : Whole) → desk.stands v l → AtRest desk.seat.profile c v → (names : List Named) → IsMeant names what meant → IsKnown names what
      → IsAnswered desk.seat.profile desk.seat.actor what (having names v c) (answer_of steps said found (named_by what came ++ names) c')
  pub others : named_by what came ≡ [] → came ≡ None

-- how many events a request makes at most, beside the deeds that weren't known: what it costs, or none where it was refused
abbrev pub events_for : ℕ → Result Block NoRoom → ℕ
events_for cost (Ok block) = cost
events_for cost (Err room) = 0

-- a request was served or refused, by its route, and by the run that a door named for it or None
pub record Serves (cost : ℕ) (wanted : Wanted) (found : Option ℕ) (c c' : Cached) (desk desk' : Standing) (answer : Result Block NoRoom) : Type 0 where
  pub steps : List Made
  pub calls : Rests c c' desk desk' steps
  pub change : ServesRequest desk.seat.profile wanted found c c' steps answer
  pub kinds : Only allocating steps
  pub few : MakesAtMost desk.seat.profile (AtRest desk.seat.profile c) (events_for cost answer) steps
  pub outcome : MatchResult answer (IsBlockFor desk.seat.profile wanted (AtRest desk.seat.profile c) steps) (λ room. (k : ℕ) (v : View)
      → RefusalEnds wanted.route wanted.directory (events_by k v steps))
  pub log_is : c'.log ≡ c.log

-- a free by name and turn, and by the room that it names, if any
pub record FreesOne (entry : Entry) (c c' : Cached) (desk desk' : Standing) (said : Option Said) : Type 0 where
  pub steps : List Made
  pub calls : Rests c c' desk desk' steps
  pub few : (v : View) → AtRest desk.seat.profile c v → Agreed desk.seat.profile v steps
      → length (events_by desk.seat.actor v steps) + length (said_by desk.seat.actor said) + owed_events desk.seat.profile c' (steps ++ v)
      ≤ 1 + owed_events desk.seat.profile c v
  pub freed : IsFreed desk.seat.profile desk.seat.actor c c' entry steps said

-- .. and there is room for its records
pub record MayAnswer (f : Profile) (c : Cached) (what : What) (spare : ℕ) (out : Records) (v : View) : Type 0 where
  pub may : MayPerform f c what spare v
  pub records : length (records_in out) + (cost_of_what what + owed_events f c v) ≤ room_of out

-- .. and the records of the events of the steps, and then what is said, come to the end
pub record AnswersMeant (what : What) (meant came : Option Block) (c c' : Cached) (out out' : Records) (desk desk' : Standing) : Type 0 where
  pub said : Option Said
  pub performs : PerformsMeant what meant came c c' desk desk' said
  pub pushed : (v : View) (l : Whole) → desk.stands v l → AtRest desk.seat.profile c v
      → records_in out' ≡ records_in out ++ (records_of (events_by desk.seat.actor v performs.steps) ++ said_by desk.seat.actor said)
  pub room : room_of out' ≡ room_of out
