-- What the private functions of the checker promise of a line.
use Rattle.std.specs.Prelude.{ℕ, ◌^◌, ◌<◌, ◌/◌, ◌%◌, ◌≡◌, ◌==◌, if◌then◌else◌, not, map, Bool, true, false, List, [], ◌∷◌, ◌++◌, Option, None, Some, IfSome}
use Rattle.std.specs.{Prelude.MatchBool, List.filter}
use Rattle.pas_profile.specs.declared.{directory.Directory.Directory, profile.Profile.Profile, event.{Event.Event, Outcome.{Outcome, TheVariants.Unbacked}}}
use Rattle.pas_profile.specs.declared.{event.{Outcome.TheVariants.{Bare, Young, InUse, NotOffered}, Why.Why}, name.{Block.Block, Name.Name}, entry.Entry.Entry}
use Rattle.pas_profile.specs.{declared.guard.Raised.Raised, Profiles.IsPage, Requests.room_in, Blocks.{address_of, grain_of, length_of}}
use Rattle.pas_bits.specs.Runs.{in_run}
use Rattle.pas_machine.specs.{State.deed_in, Machine.{Admits, HasOtherRoom, IsReason}, Machines.{profile_of, StandsFor}, declared.machine.Machine.Machine}
use Rattle.pas_trace.specs.declared.item.Request.{Request}
use Rattle.pas_check.specs.{Begins.{begun_from, entries_due, goes_down, has_sides, lowered_due, past_outcomes, raising, replacing}, Bounds.FitsNext}
use Rattle.pas_check.specs.{Bounds.{FitsRequest, FitsTry, IsFew, IsKept}, Leading.{Fails, IsLed, IsWithin, Leads}, Ranges.Fits, States.{Due, Examines, Serves}}
use Rattle.pas_check.specs.{States.{Tries, Stand, with_due, with_name}, Takes.{IsEventOf, IsRefusal, MayCome, MayRefuse, MayServe, after_outcome, block_in}}
use Rattle.pas_check.specs.{Takes.{directory_of, record_of}, declared.{cutting.Cursor.Cursor, examining.Examined.Examined, guarding.Trial.Trial}}
use Rattle.pas_check.specs.declared.{guarding.Trial.TheVariants.{Gives, Passes, Stops}, serving.Wanted.Wanted}
use Rattle.pas_records.specs.{Lines.{line_of, line_of_event}, declared.record.{Record.Record, Said.Said}}

-- what was read of a line: the record that has this line, where there is one whose numbers fit their places
pub record IsRead (line : List ℕ) (found : Option Record) : Type 0 where
  pub some : IfSome found (λ r. line ≡ line_of r)
  pub only : (r : Record) → Fits r → line ≡ line_of r → found ≡ Some r

-- the machine took the event, which may come next; or it may not, and the machine is as it was
abbrev pub IsStepped : Machine → Machine → Event → Bool → Type 0
IsStepped old new e true = (es : List Event) → StandsFor old es → Admits (profile_of old) es e × StandsFor new (e ∷ es)
IsStepped old new e false = (new ≡ old) × ((es : List Event) → StandsFor old es → IsFew es → Admits (profile_of old) es e → ⊥)

-- ---- an entry
-- the reason for which the entry's name can't end, or that there is none
abbrev pub IsTrueReason : List Event → Entry → Option Why → Type 0
IsTrueReason es entry None = (why : Why) → MayRefuse entry why → IsReason es entry.name why → ⊥
IsTrueReason es entry (Some why) = MayRefuse entry why × IsReason es entry.name why

-- the entry names a room, and the block of its name lives with another one
abbrev pub Differs : List Event → Entry → Type 0
Differs es entry = (0 < entry.room) × HasOtherRoom es entry.name entry.room

-- The line is of the entry's event, which may come next, and the machine took it; or it is not, and the machine is as it was.
abbrev pub EntryTaken : Profile → Machine → Machine → ℕ → Entry → ℕ → List ℕ → Bool → Type 0
EntryTaken f old new k entry epoch line true = (e : Event) × (line ≡ line_of_event e) × ((s : Stand) → StandsFor old s.events → s.epoch ≡ epoch
    → IsEventOf s k entry e × Admits f s.events e × StandsFor new (e ∷ s.events))
EntryTaken f old new k entry epoch line false = (new ≡ old) × ((s : Stand) (e : Event) → StandsFor old s.events → IsFew s.events → s.epoch ≡ epoch
    → IsEventOf s k entry e → Admits f s.events e → line ≡ line_of_event e → ⊥)

-- The lines lead from here to where the machine stands for the events, and these are due; or one of them can't be taken.
pub record Reaches (f : Profile) (text : List ℕ) (s : Stand) (from : Cursor) (new : Machine) (to : Cursor) (dues : List Due) : Type 0 where
  pub events : List Event
  pub led : Leads f text s from (record s { events = events; due = dues }) to
  pub stands : StandsFor new events
  pub kept : IsKept (record s { events = events; due = dues }) to

abbrev pub ReachesIf : Profile → List ℕ → Stand → Cursor → Machine → Cursor → List Due → Bool → Type 0
ReachesIf f text s from new to due true = Reaches f text s from new to due
ReachesIf f text s from new to due false = Fails f text s from to.lines

-- The lines of so many entries lead from where the entries of the log are due to where those that are left are; or one of them can't be taken.
pub record EntriesTaken (old new : Machine) (text : List ℕ) (from to : Cursor) (k : ℕ) (log left : List Entry) (epoch : ℕ) (is : Bool) : Type 0 where
  pub taken : (s : Stand) (more : List Due) → StandsFor old s.events → s.epoch ≡ epoch → IsKept s from → s.due ≡ entries_due k log ++ more
      → ReachesIf (profile_of old) text s from new to (entries_due k left ++ more) is

-- ---- an outcome of a pass
-- what came of a page by an event of a pass in this epoch
abbrev pub outcome_in_event : ℕ → Event → Option Examined
outcome_in_event epoch (Event.Deed k page d) = None
outcome_in_event epoch (Event.Back k page) = None
outcome_in_event epoch (Event.Unback k page read) = if k == 0 then (if read == epoch then Some record { page = page; outcome = Unbacked } else None) else None
outcome_in_event epoch (Event.Give k block) = None
outcome_in_event epoch (Event.End k name read) = None
outcome_in_event epoch (Event.Reject k name why) = None

-- .. and by what is said
abbrev pub outcome_in_said : Said → Option Examined
outcome_in_said (Said.NoSpace name) = None
outcome_in_said (Said.Held page name) = None
outcome_in_said (Said.Outside block) = None
outcome_in_said (Said.Unaligned block) = None
outcome_in_said (Said.Skipped name) = None
outcome_in_said (Said.Kept block name) = None
outcome_in_said (Said.Tick epoch) = None
outcome_in_said (Said.Pass epoch) = None
outcome_in_said (Said.Bare page) = Some record { page = page; outcome = Bare }
outcome_in_said (Said.Young page stamp) = Some record { page = page; outcome = Young stamp }
outcome_in_said (Said.InUse page word value) = Some record { page = page; outcome = InUse word value }
outcome_in_said (Said.NotOffered page) = Some record { page = page; outcome = NotOffered }
outcome_in_said (Said.Stopped thread) = None
outcome_in_said (Said.Guarded low high name) = None
outcome_in_said (Said.Lowered low high) = None

abbrev pub outcome_in : ℕ → Record → Option Examined
outcome_in epoch (Record.Event e) = outcome_in_event epoch e
outcome_in epoch (Record.Said k said) = if k == 0 then outcome_in_said said else None
outcome_in epoch (Record.Phase n) = None
outcome_in epoch Record.Close = None

-- what came of the page was taken, as it may come, and the machine stands for what stands after it; or it may not, and the machine is as it was
abbrev pub IsExamined : Machine → Machine → ℕ → Examined → Bool → Type 0
IsExamined old new epoch x true = (s : Stand) → StandsFor old s.events → s.epoch ≡ epoch → MayCome (profile_of old) s x.page x.outcome × StandsFor new (after_outcome s x.page x.outcome).events
IsExamined old new epoch x false = (new ≡ old) × ((s : Stand) → StandsFor old s.events → IsFew s.events → s.epoch ≡ epoch
    → MayCome (profile_of old) s x.page x.outcome → ⊥)

-- What was read is of an outcome of a page of the region after the last one, this page, and may come; or it is of none of these, and the machine is as it was.
abbrev pub OutcomeTaken : Profile → Machine → Machine → ℕ → ℕ → Option Record → Option ℕ → Type 0
OutcomeTaken f old new last epoch found (Some page) = (o : Outcome) × (found ≡ Some (record_of epoch page o)) × (last < page) × IsPage f page
    × ((s : Stand) → StandsFor old s.events → s.epoch ≡ epoch → MayCome f s page o × StandsFor new (after_outcome s page o).events)
OutcomeTaken f old new last epoch found None = (new ≡ old) × ((s : Stand) (page : ℕ) (o : Outcome) → StandsFor old s.events → IsFew s.events → s.epoch ≡ epoch
    → found ≡ Some (record_of epoch page o) → last < page → IsPage f page → MayCome f s page o → ⊥)

-- ---- the end of a request
-- what the request asks for
pub record IsWanted (f : Profile) (r : Request) (w : Wanted) : Type 0 where
  pub name : r.name ≡ w.name
  pub room : room_in f r.size r.align ≡ w.room
  pub align : r.align ≡ w.align
  pub directory : directory_of f r ≡ w.directory

-- a request of these numbers
abbrev pub asked_for : ℕ → ℕ → ℕ → ℕ → Request
asked_for name heap size align = record { name = name; heap = heap; size = size; align = align }

-- each page under the block has a deed of the directory
abbrev pub LiesOn : List Event → Block → Directory → Type 0
LiesOn es block d = (x : ℕ) → in_run (grain_of block.name) (length_of block) x ≡ true → deed_in es (x / 256) ≡ Some d

-- the block has the heap, the room and the alignment that are wanted
abbrev pub IsFitting : Block → Wanted → Type 0
IsFitting block w = (block.heap ≡ w.directory.heap) × (block.room ≡ w.room) × (address_of block.name % w.align ≡ 0)

-- What was read is of an event that serves what is wanted and may come next, and the machine took it; or it is of none, and the machine is as it was.
abbrev pub EventTaken : Profile → Machine → Machine → ℕ → Wanted → Option Record → Option Event → Type 0
EventTaken f old new k w found (Some e) = (found ≡ Some (Record.Event e)) × ((s : Stand) (r : Request) → IsWanted f r w → StandsFor old s.events
    → MayServe f s k r (Record.Event e) × StandsFor new (e ∷ s.events))
EventTaken f old new k w found None = (new ≡ old) × ((s : Stand) (r : Request) (e : Event) → IsWanted f r w → StandsFor old s.events → IsFew s.events
    → found ≡ Some (Record.Event e) → MayServe f s k r (Record.Event e) → ⊥)

-- a block that an event gives is of the heap
abbrev pub GivesOf : ℕ → Event → Type 0
GivesOf heap e = IfSome (block_in e) (λ block. block.heap ≡ heap)

-- what was read refuses the request
abbrev pub RefusesBy : Profile → Stand → ℕ → Request → Option Record → Type 0
RefusesBy f s k r found = (said : Said) × IsRefusal f s r said × (found ≡ Some (Record.Said k said))

-- .. for what is wanted; or it doesn't
abbrev pub RefusalSeen : Profile → Machine → ℕ → Wanted → Option Record → Bool → Type 0
RefusalSeen f machine k w found is = (s : Stand) (r : Request) → IsWanted f r w → StandsFor machine s.events
    → MatchBool is (RefusesBy f s k r found) (RefusesBy f s k r found → ⊥)

-- ---- the lines of a request
-- where the request may stand, and its lines begin
pub record IsAsked (machine : Machine) (s : Stand) (at : Cursor) (k : ℕ) (w : Wanted) (r : Request) (replaced : Option Name) (more : List Due) : Type 0 where
  pub wants : IsWanted (profile_of machine) r w
  pub stands : StandsFor machine s.events
  pub kept : IsKept s at
  pub fits : FitsRequest (profile_of machine) k r
  pub epoch : s.epoch < 2 ^ 64
  pub due : s.due ≡ Serves k r replaced ∷ more

-- the lines so far, which are deeds and backs, lead to where the request goes on
pub record RequestGoes (old new : Machine) (text : List ℕ) (from to : Cursor) (k : ℕ) (w : Wanted) : Type 0 where
  pub goes : (s : Stand) (r : Request) (replaced : Option Name) (more : List Due) → IsAsked old s from k w r replaced more
      → Reaches (profile_of old) text s from new to (Serves k r replaced ∷ more)

-- what stands after the request, whose name has come to this
abbrev pub after_request : Stand → ℕ → Request → Option Name → Option Block → List Due → Stand
after_request s k r replaced None more = with_due (with_name s r.name None) more
after_request s k r replaced (Some block) more = replacing replaced (with_name s r.name (Some block)) k more

-- they lead to where its name stands for the block, or for nothing; or one of them can't be taken
abbrev pub RequestTaken : Machine → Machine → List ℕ → Cursor → Cursor → ℕ → Wanted → Option (Option Block) → Type 0
RequestTaken old new text from to k w (Some found) = (s : Stand) (r : Request) (replaced : Option Name) (more : List Due) → IsAsked old s from k w r replaced more
    → (es : List Event) × Leads (profile_of old) text s from (after_request (record s { events = es }) k r replaced found more) to × StandsFor new es × IsKept (record s { events = es }) to
RequestTaken old new text from to k w None = (s : Stand) (r : Request) (replaced : Option Name) (more : List Due) → IsAsked old s from k w r replaced more → Fails (profile_of old) text s from to.lines

-- ---- the lines of a keeper
-- a block that was given is of the heap that is wanted
abbrev pub IsGiftOf : Wanted → Trial → Type 0
IsGiftOf w (Gives block) = block.heap ≡ w.directory.heap
IsGiftOf w (Passes place) = Unit {0}
IsGiftOf w Stops = Unit {0}

-- where a guarded request may stand, and the lines of its keeper begin
pub record IsTrying (machine : Machine) (s : Stand) (at : Cursor) (keeper k : ℕ) (w : Wanted) (r : Request) (more : List Due) : Type 0 where
  pub wants : IsWanted (profile_of machine) r w
  pub stands : StandsFor machine s.events
  pub kept : IsKept s at
  pub fits : FitsTry (profile_of machine) keeper k r
  pub epoch : s.epoch < 2 ^ 64
  pub due : s.due ≡ Tries keeper k r false ∷ more

-- the lines so far, which are deeds and backs, lead to where the keeper goes on, which has backed a page or none
pub record TrialGoes (old new : Machine) (text : List ℕ) (from to : Cursor) (keeper : ℕ) (w : Wanted) (backed : Bool) : Type 0 where
  pub goes : (s : Stand) (k : ℕ) (r : Request) (more : List Due) → IsTrying old s from keeper k w r more
      → Reaches (profile_of old) text s from new to (Tries keeper k r backed ∷ more)

-- they lead to where its guard is raised; or to where its thread is to be served; or one of them can't be taken
abbrev pub TrialTaken : Machine → Machine → List ℕ → Cursor → Cursor → ℕ → Wanted → Trial → Type 0
TrialTaken old new text from to keeper w (Gives block) = (s : Stand) (k : ℕ) (r : Request) (more : List Due) → IsTrying old s from keeper k w r more
    → (es : List Event) × Leads (profile_of old) text s from (raising (has_sides (profile_of old) block) (with_name (record s { events = es }) r.name (Some block)) keeper r.name block more) to
    × StandsFor new es × IsKept (record s { events = es }) to
TrialTaken old new text from to keeper w (Passes place) = (s : Stand) (k : ℕ) (r : Request) (more : List Due) → IsTrying old s from keeper k w r more
    → (es : List Event) × Leads (profile_of old) text s from (record s { events = es; due = Serves k r None ∷ more }) place × StandsFor new es × IsKept (record s { events = es }) place
TrialTaken old new text from to keeper w Stops = (s : Stand) (k : ℕ) (r : Request) (more : List Due) → IsTrying old s from keeper k w r more → Fails (profile_of old) text s from to.lines

-- where they were taken, the place behind them stands in the text
abbrev pub TrialStays : List ℕ → Cursor → Trial → Type 0
TrialStays text at (Gives block) = IsWithin text at
TrialStays text at (Passes place) = IsWithin text place
TrialStays text at Stops = Unit {0}

-- ---- the lines of a sweep
-- these guards stay up
abbrev pub staying : List Event → ℕ → Bool → List Raised → List Raised
staying es keeper all guards = filter (λ guard. not (goes_down es keeper all guard)) guards

-- The lines of a sweep of these guards lead to where those of the others are due; or one of them can't be taken.
pub record LinesSwept (machine : Machine) (text : List ℕ) (from to : Cursor) (guards : List Raised) (keeper : ℕ) (all : Bool) (rest : List Raised)
    (is : Bool) : Type 0 where
  pub swept : (f : Profile) (s : Stand) (more : List Due) → StandsFor machine s.events
      → s.due ≡ map lowered_due (filter (goes_down s.events keeper all) guards) ++ more
      → IsLed f text s from (with_due s (map lowered_due (filter (goes_down s.events keeper all) rest) ++ more)) to is

-- ---- the lines of a pass
-- what stands after a pass that left these events, where the next act that has a line is begun
abbrev pub after_pass : Profile → Stand → List Event → Stand
after_pass f s es = begun_from f (record s { events = es; due = [] }) s.left

-- What follows the pass fits its places, whatever events the pass makes.
pub record IsFollowed (f : Profile) (s : Stand) : Type 0 where
  pub fits : (es : List Event) → FitsNext f (after_pass f s es).due
  pub no_pass : (es : List Event) → past_outcomes (after_pass f s es).due ≡ (after_pass f s es).due
  pub events : (es : List Event) → (after_pass f s es).events ≡ es
  pub epoch : (es : List Event) → (after_pass f s es).epoch < 2 ^ 64

pub record IsExamining (machine : Machine) (s : Stand) (at : Cursor) (last read : ℕ) : Type 0 where
  pub stands : StandsFor machine s.events
  pub kept : IsKept s at
  pub epoch : s.epoch ≡ read
  pub small : read < 2 ^ 64
  pub due : s.due ≡ Examines last ∷ []
  pub followed : IsFollowed (profile_of machine) s

-- the outcomes so far lead to where this page is the last
pub record OutcomesGo (old new : Machine) (text : List ℕ) (from to : Cursor) (last epoch : ℕ) : Type 0 where
  pub goes : (s : Stand) → IsExamining old s from 0 epoch → Reaches (profile_of old) text s from new to (Examines last ∷ [])

-- all of them lead to where nothing more is due of the pass
pub record OutcomesTaken (old new : Machine) (text : List ℕ) (from to : Cursor) (epoch : ℕ) : Type 0 where
  pub taken : (s : Stand) → IsExamining old s from 0 epoch → Reaches (profile_of old) text s from new to []
