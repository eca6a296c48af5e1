-- Which line may come next, by what stands before it, and what follows from it.
use Rattle.std.specs.Prelude.{ℕ, ◌+◌, ◌*◌, ◌-◌, ◌/◌, ◌%◌, ◌^◌, ◌<◌, ◌≡◌, ◌≢◌, ◌⊎◌, Bool, true, false, not, ◌||◌, List, [], ◌∷◌, Option, None, Some, codes}
use Rattle.pas_profile.specs.declared.{directory.Directory.Directory, event.{Event.Event, Outcome.{Outcome, TheVariants.{Unbacked, Bare, Young, InUse}}}}
use Rattle.pas_profile.specs.declared.{event.{Outcome.TheVariants.NotOffered, Why.Why}, name.{Block.Block, Name.Name}, profile.Profile.Profile}
use Rattle.pas_profile.specs.{declared.entry.Entry.Entry, Profiles.IsPage, Requests.{room_in, directory_for}, Blocks.{address_of, grain_of, length_of}}
use Rattle.pas_bits.specs.Runs.{in_run}
use Rattle.pas_machine.specs.{Machine.{Admits, IsReason}, State.{deed_in, backed_in, epoch_in}}
use Rattle.pas_steps.specs.Views.{usable_by_kind}
use Rattle.pas_report.specs.Reports.{machine_page, total_line}
use Rattle.pas_trace.specs.declared.item.Request.{Request}
use Rattle.pas_check.specs.States.{Due, Writes, Frees, Serves, Tries, Never, Examines, Heads, Shows, Totals, Stand, with_due, with_one, with_name}
use Rattle.pas_check.specs.Begins.{has_sides, raising, ready, replacing}
use Rattle.pas_records.specs.{Lines.{line_of, line_of_event, line_of_answer}, Marks.Marked, Covered.is_covered, declared.record.{Record.Record, Said.Said}}

-- ---- an entry of a log
-- A reason for which the end of an entry may be refused. That the block's room differs is one only where the entry names a room, and it tells that room.
abbrev pub MayRefuse : Entry → Why → Type 0
MayRefuse entry Why.Ended = Unit {0}
MayRefuse entry Why.NoBlock = Unit {0}
MayRefuse entry (Why.SizeDiffers asked) = (0 < entry.room) × (asked ≡ entry.room)

-- Its event is the refusal with the true reason, and where there is none the end with the greatest tick so far.
abbrev pub IsEventOf : Stand → ℕ → Entry → Event → Type 0
IsEventOf s k entry e =
    ((why : Why) × MayRefuse entry why × IsReason s.events entry.name why × (e ≡ Event.Reject k entry.name why))
    ⊎ (((why : Why) → MayRefuse entry why → IsReason s.events entry.name why → ⊥) × (e ≡ Event.End k entry.name s.epoch))

pub record TakesEntry (f : Profile) (s : Stand) (k : ℕ) (entry : Entry) (more : List Due) (line : List ℕ) (next : Stand) : Type 0 where
  pub event : Event
  pub of_entry : IsEventOf s k entry event
  pub admitted : Admits f s.events event
  pub line_is : line ≡ line_of_event event
  pub next_is : next ≡ with_due (with_one s event) more

-- ---- a request
-- the directory of its pages
abbrev pub directory_of : Profile → Request → Directory
directory_of f r = directory_for f r.heap r.size r.align

-- The block has the request's heap and room, stands at a multiple of its alignment, and each page of its run has a deed of the request's directory.
pub record IsFor (f : Profile) (s : Stand) (r : Request) (block : Block) : Type 0 where
  pub heap : block.heap ≡ r.heap
  pub room : block.room ≡ room_in f r.size r.align
  pub aligned : address_of block.name % r.align ≡ 0
  pub deeds : (x : ℕ) → in_run (grain_of block.name) (length_of block) x ≡ true → deed_in s.events (x / 256) ≡ Some (directory_of f r)

-- Actor k's event serves the request: a deed of its directory, a back, or the give of a block for it.
abbrev pub IsServing : Profile → Stand → ℕ → Request → Event → Type 0
IsServing f s k r (Event.Deed j page d) = (j ≡ k) × (d ≡ directory_of f r)
IsServing f s k r (Event.Back j page) = j ≡ k
IsServing f s k r (Event.Unback j page epoch) = ⊥
IsServing f s k r (Event.Give j block) = (j ≡ k) × IsFor f s r block
IsServing f s k r (Event.End j name epoch) = ⊥
IsServing f s k r (Event.Reject j name why) = ⊥

-- the block that an event gives
abbrev pub block_in : Event → Option Block
block_in (Event.Deed k page d) = None
block_in (Event.Back k page) = None
block_in (Event.Unback k page epoch) = None
block_in (Event.Give k block) = Some block
block_in (Event.End k name epoch) = None
block_in (Event.Reject k name why) = None

-- The request is refused: no page can serve it, or a page of its directory is in some actor's hands.
abbrev pub IsRefusal : Profile → Stand → Request → Said → Type 0
IsRefusal f s r said =
    (said ≡ Said.NoSpace r.name)
    ⊎ ((page : ℕ) × (deed_in s.events page ≡ Some (directory_of f r)) × (said ≡ Said.Held page r.name))

-- The record answers the request: it is of an event that serves it and may come next, or of a refusal.
abbrev pub MayServe : Profile → Stand → ℕ → Request → Record → Type 0
MayServe f s k r (Record.Event e) = IsServing f s k r e × Admits f s.events e
MayServe f s k r (Record.Said j said) = (j ≡ k) × IsRefusal f s r said
MayServe f s k r (Record.Phase n) = ⊥
MayServe f s k r Record.Close = ⊥

-- Until a block is given the request goes on. Then its name stands for the block, and the name that it replaces is logged, if there is one.
abbrev pub given_next : Option Block → Stand → ℕ → Request → Option Name → List Due → Stand
given_next None s k r old more = s
given_next (Some block) s k r old more = replacing old (with_name s r.name (Some block)) k more

-- what follows from a record that answers the request
abbrev pub after_record : Stand → ℕ → Request → Option Name → List Due → Record → Stand
after_record s k r old more (Record.Event e) = given_next (block_in e) (with_one s e) k r old more
after_record s k r old more (Record.Said j said) = with_due (with_name s r.name None) more
after_record s k r old more (Record.Phase n) = s
after_record s k r old more Record.Close = s

-- THE LINE of a request is that of some record that answers it, and what follows is by the record alone.
pub record TakesRequest (f : Profile) (s : Stand) (k : ℕ) (r : Request) (old : Option Name) (more : List Due) (line : List ℕ) (next : Stand) : Type 0 where
  pub item : Record
  pub may : MayServe f s k r item
  pub line_is : line ≡ line_of item
  pub next_is : next ≡ after_record s k r old more item

-- ---- a guarded request
-- a page is backed by the event
abbrev pub is_back : Event → Bool
is_back (Event.Deed k page d) = false
is_back (Event.Back k page) = true
is_back (Event.Unback k page epoch) = false
is_back (Event.Give k block) = false
is_back (Event.End k name epoch) = false
is_back (Event.Reject k name why) = false

-- the keeper goes on, or it gave the block, which the name stands for, and raises its guard
abbrev pub kept_next : Option Block → Profile → Stand → ℕ → ℕ → Request → Bool → List Due → Stand
kept_next None f s keeper k r backed more = with_due s (Tries keeper k r backed ∷ more)
kept_next (Some block) f s keeper k r backed more = raising (has_sides f block) (with_name s r.name (Some block)) keeper r.name block more

abbrev pub after_keeping : Profile → Stand → ℕ → ℕ → Request → Bool → List Due → Event → Stand
after_keeping f s keeper k r backed more e = kept_next (block_in e) f (with_one s e) keeper k r (backed || is_back e) more

-- the line is of an event by which the keeper serves the request
pub record TakesKeeping (f : Profile) (s : Stand) (keeper k : ℕ) (r : Request) (backed : Bool) (more : List Due) (line : List ℕ) (next : Stand) : Type 0 where
  pub event : Event
  pub serves : IsServing f s keeper r event
  pub admitted : Admits f s.events event
  pub line_is : line ≡ line_of_event event
  pub next_is : next ≡ after_keeping f s keeper k r backed more event

-- .. or, where the keeper has backed no page, thread k is served as any request is
abbrev pub serving : Stand → ℕ → Request → List Due → Stand
serving s k r more = with_due s (Serves k r None ∷ more)

abbrev pub TakesTry : Profile → Stand → ℕ → ℕ → Request → Bool → List Due → List ℕ → Stand → Type 0
TakesTry f s keeper k r backed more line next =
    TakesKeeping f s keeper k r backed more line next ⊎ ((backed ≡ false) × TakesRequest f (serving s k r more) k r None more line next)

-- ---- an outcome of a pass
-- what may come of a page of the region
abbrev pub MayCome : Profile → Stand → ℕ → Outcome → Type 0
MayCome f s page Unbacked = Admits f s.events (Event.Unback 0 page s.epoch)
MayCome f s page Bare = backed_in s.events page ≡ false
MayCome f s page (Young stamp) = (stamp ≡ epoch_in s.events page) × (s.epoch < stamp + f.age)
MayCome f s page (InUse word value) = (word < 4) × (value < 2 ^ 64 - 1)
MayCome f s page NotOffered = deed_in s.events page ≢ None

-- its record, and what follows
abbrev pub record_of : ℕ → ℕ → Outcome → Record
record_of epoch page Unbacked = Record.Event (Event.Unback 0 page epoch)
record_of epoch page Bare = Record.Said 0 (Said.Bare page)
record_of epoch page (Young stamp) = Record.Said 0 (Said.Young page stamp)
record_of epoch page (InUse word value) = Record.Said 0 (Said.InUse page word value)
record_of epoch page NotOffered = Record.Said 0 (Said.NotOffered page)

-- a record of some outcome
abbrev pub IsOutcome : Record → Type 0
IsOutcome item = (epoch : ℕ) × (page : ℕ) × (outcome : Outcome) × (item ≡ record_of epoch page outcome)

abbrev pub after_outcome : Stand → ℕ → Outcome → Stand
after_outcome s page Unbacked = with_one s (Event.Unback 0 page s.epoch)
after_outcome s page Bare = s
after_outcome s page (Young stamp) = s
after_outcome s page (InUse word value) = s
after_outcome s page NotOffered = s

-- the outcomes of a pass have rising pages
pub record TakesOutcome (f : Profile) (s : Stand) (last : ℕ) (more : List Due) (line : List ℕ) (next : Stand) : Type 0 where
  pub page : ℕ
  pub rises : last < page
  pub of_region : IsPage f page
  pub outcome : Outcome
  pub may : MayCome f s page outcome
  pub line_is : line ≡ line_of (record_of s.epoch page outcome)
  pub next_is : next ≡ with_due (after_outcome s page outcome) (Examines page ∷ more)

-- ---- a page of the report
-- The marks that the machine allows: `backed` exactly where it has the page backed; exactly one of `offered` and `parked`; `offered` wherever a usable
-- grain isn't covered, and `hinted` wherever it is backed and no grain is covered.
pub record AreAllowedMarks (s : Stand) (page : ℕ) (d : Directory) (m : Marked) : Type 0 where
  pub backed : m.backed ≡ backed_in s.events page
  pub offered_or_parked : m.parked ≡ not m.offered
  pub offered : (b : ℕ) → b < 256 → usable_by_kind d.kind b ≡ true → is_covered s.events (256 * page + b) ≡ false → m.offered ≡ true
  pub hinted : backed_in s.events page ≡ true → ((g : ℕ) → g / 256 ≡ page → is_covered s.events g ≡ false) → m.hinted ≡ true

pub record TakesPage (s : Stand) (page : ℕ) (d : Directory) (more : List Due) (line : List ℕ) (next : Stand) : Type 0 where
  pub marks : Marked
  pub allowed : AreAllowedMarks s page d marks
  pub line_is : line ≡ machine_page s.events page (Some d) marks
  pub next_is : next ≡ with_due s more

-- ---- lines of which no word is open
-- it is just this line
abbrev pub IsJust : Stand → List ℕ → List Due → List ℕ → Stand → Type 0
IsJust s text more line next = (line ≡ text) × (next ≡ with_due s more)

-- the first line of the report
abbrev pub head_line : List ℕ
head_line = codes "report\n"

-- ---- any line
-- the line answers what is due
abbrev pub TakesDue : Profile → Stand → List Due → List ℕ → Stand → Type 0
TakesDue f s [] line next = ⊥
TakesDue f s (Writes item ∷ more) line next = IsJust s (line_of item) more line next
TakesDue f s (Frees k entry ∷ more) line next = TakesEntry f s k entry more line next
TakesDue f s (Serves k r old ∷ more) line next = TakesRequest f s k r old more line next
TakesDue f s (Tries keeper k r backed ∷ more) line next = TakesTry f s keeper k r backed more line next
TakesDue f s (Never ∷ more) line next = ⊥
TakesDue f s (Examines page ∷ more) line next = TakesOutcome f s page more line next
TakesDue f s (Heads ∷ more) line next = IsJust s head_line more line next
TakesDue f s (Shows page d ∷ more) line next = TakesPage s page d more line next
TakesDue f s (Totals ∷ more) line next = IsJust s (total_line f s.events) more line next

-- it is an outcome of the pass, where one may come
abbrev pub TakesFirst : Profile → Stand → List Due → List ℕ → Stand → Type 0
TakesFirst f s [] line next = ⊥
TakesFirst f s (Writes item ∷ more) line next = ⊥
TakesFirst f s (Frees k entry ∷ more) line next = ⊥
TakesFirst f s (Serves k r old ∷ more) line next = ⊥
TakesFirst f s (Tries keeper k r backed ∷ more) line next = ⊥
TakesFirst f s (Never ∷ more) line next = ⊥
TakesFirst f s (Examines page ∷ more) line next = TakesOutcome f s page more line next
TakesFirst f s (Heads ∷ more) line next = ⊥
TakesFirst f s (Shows page d ∷ more) line next = ⊥
TakesFirst f s (Totals ∷ more) line next = ⊥

-- THE NEXT LINE, and what follows from it
abbrev pub Takes : Profile → Stand → List ℕ → Stand → Type 0
Takes f s line next = TakesFirst f s s.due line next ⊎ TakesDue f (ready f s) (ready f s).due line next
