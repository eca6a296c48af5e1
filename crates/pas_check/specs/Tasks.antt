-- What the acts of a replay do to what a check keeps.
use Rattle.std.specs.Prelude.{ℕ, ◌%◌, ◌^◌, ◌<◌, ◌≤◌, ◌≡◌, max, Bool, true, false, List, [], ◌∷◌, Option, Some, length, slice_index}
use Rattle.pas_profile.specs.{declared.{name.{Block.Block, Name.Name}, profile.Profile.Profile, entry.Entry.Entry}, Blocks.address_of}
use Rattle.pas_machine.specs.Machines.{profile_of, StandsFor}
use Rattle.pas_trace.specs.{Acts.{Act, MakesPass}, Named.standing_for, declared.item.Request.Request}
use Rattle.pas_check.specs.Begins.{begun_act, flushing, freeing, freeing_named, is_full, logging, guarding, remaking, remaking_named, request_for, suits}
use Rattle.pas_check.specs.{Begins.{sweeping, tells}, Bounds.IsKept, Calls.IsFollowed, Leading.{Fails, Leads}, Tables.{AreNamed, logged, logs_held}, States.Due}
use Rattle.pas_check.specs.{States.{Serves, Task, Does, Stand, with_due, with_name}, declared.{acting.Judge.Judge, cutting.Cursor.Cursor}}
use Rattle.pas_records.specs.declared.record.Said.{Said}

-- the judge stands for the state, at the cursor
pub record Stands (f : Profile) (judge : Judge) (s : Stand) (at : Cursor) : Type 0 where
  pub profile : profile_of judge.machine ≡ f
  pub events : StandsFor judge.machine s.events
  pub names : AreNamed judge.names s.names
  pub logs : (k : ℕ) → k < logs_held judge.logs → s.logs k ≡ logged judge.logs k
  pub idle_since : (k : ℕ) → k < length judge.idle_since.items → s.idle_since k ≡ slice_index judge.idle_since.items k
  pub epoch : s.epoch ≡ judge.epoch
  pub guards : s.guards ≡ judge.guards.items
  pub small : judge.epoch < 2 ^ 64
  pub kept : IsKept s at

-- nothing is due, and the act is the next task
pub record IsNext (f : Profile) (judge : Judge) (s : Stand) (at : Cursor) (act : Act) (ts : List Task) : Type 0 where
  pub stands : Stands f judge s at
  pub due : s.due ≡ []
  pub left : s.left ≡ Does act ∷ ts

-- The lines lead from here to where the judge stands, these are due, and these are left.
pub record Arrives (f : Profile) (text : List ℕ) (s : Stand) (from : Cursor) (new : Judge) (to : Cursor) (dues : List Due) (tasks : List Task) : Type 0 where
  pub stand : Stand
  pub led : Leads f text s from stand to
  pub stands : Stands f new stand to
  pub due : stand.due ≡ dues
  pub left : stand.left ≡ tasks

-- .. or one of them can't be taken, where memory wasn't wanting for a guard
abbrev pub ArrivesIf : Profile → List ℕ → Stand → Cursor → Judge → Cursor → List Due → List Task → Bool → Type 0
ArrivesIf f text s from new to due left true = Arrives f text s from new to due left
ArrivesIf f text s from new to due left false = new.lacks_memory ≡ false → Fails f text s from to.lines

pub record Comes (f : Profile) (text : List ℕ) (s : Stand) (from : Cursor) (new : Judge) (to : Cursor) (due : List Due) (left : List Task)
    (is : Bool) : Type 0 where
  pub come : ArrivesIf f text s from new to due left is

-- .. to where the act is done, and nothing is due
pub record ActTaken (f : Profile) (text : List ℕ) (old : Judge) (from : Cursor) (new : Judge) (to : Cursor) (act : Act) (is : Bool) : Type 0 where
  pub done : (s : Stand) (ts : List Task) → IsNext f old s from act ts → Comes f text s from new to [] ts is

-- .. from wherever the judge stands, once this is begun, to where what was due behind it is
pub record IsAnswered (f : Profile) (text : List ℕ) (old : Judge) (from : Cursor) (new : Judge) (to : Cursor) (begun : Stand → List Due → Stand)
    (is : Bool) : Type 0 where
  pub answered : (s : Stand) (more : List Due) (ts : List Task) → Stands f old s from
      → Comes f text (record (begun s more) { left = ts }) from new to more ts is

-- an act that only empties thread k's log: a flush, a stop, and the end at the close
abbrev pub Flushes : Profile → Act → ℕ → Type 0
Flushes f act k = (s : Stand) → begun_act f s act ≡ flushing s k [] []

-- an act that only frees by the entry, by thread k, where the judge stands for the state
abbrev pub FreesEntry : Profile → Judge → Cursor → Act → ℕ → Entry → Type 0
FreesEntry f judge at act k entry = (s : Stand) → Stands f judge s at → begun_act f s act ≡ freeing f s k entry

-- an act that only frees what the name of the trace stands for, and names this room
abbrev pub FreesNamed : Profile → Act → ℕ → ℕ → ℕ → Type 0
FreesNamed f act k name room = (s : Stand) → begun_act f s act ≡ freeing_named f s k name room (standing_for s.names name)

-- .. once thread k's log is being emptied, which has these entries afterwards
abbrev pub LogEmptied : Profile → List ℕ → Judge → Cursor → Judge → Cursor → ℕ → List Entry → Bool → Type 0
LogEmptied f text old from new to k log is = IsAnswered f text old from new to (λ s more. flushing s k log more) is

-- .. so do those of a pass, where what follows it fits its places
pub record PassTaken (f : Profile) (text : List ℕ) (old : Judge) (from : Cursor) (new : Judge) (to : Cursor) (is : Bool) : Type 0 where
  pub done : (s : Stand) (ts : List Task) → IsNext f old s from MakesPass ts → IsFollowed f (record s { left = ts }) → Comes f text s from new to [] ts is

-- an act that only asks for what thread k's request says, and replaces the block of this name, if there is one
abbrev pub Asks : Profile → Judge → Cursor → Act → ℕ → Request → Option Name → Type 0
Asks f judge at act k r replaced = (s : Stand) → Stands f judge s at → begun_act f s act ≡ with_due s (Serves k r replaced ∷ [])

-- an act that only asks the keeper for what thread k's request says
abbrev pub AsksKeeper : Profile → Judge → Cursor → Act → ℕ → ℕ → Request → Type 0
AsksKeeper f judge at act keeper k r = (s : Stand) → Stands f judge s at → begun_act f s act ≡ guarding s keeper k (Some r)

-- an act of which only this is said, by thread k, after which the name stands for the block, or for nothing
abbrev pub SaysNamed : Profile → Judge → Cursor → Act → ℕ → ℕ → Option Block → Said → Type 0
SaysNamed f judge at act k name block said = (s : Stand) → Stands f judge s at → begun_act f s act ≡ tells (with_name s name block) k said

-- an act that only gives what the name of the trace stands for another size, under a new name
abbrev pub Remakes : Profile → Act → ℕ → ℕ → ℕ → ℕ → ℕ → Type 0
Remakes f act k name old size align = (s : Stand) → begun_act f s act ≡ remaking_named s k name size align (standing_for s.names old)

-- an act that only gives the block another size, under a new name
abbrev pub Resizes : Profile → Judge → Cursor → Act → ℕ → ℕ → Block → ℕ → ℕ → Type 0
Resizes f judge at act k name block size align = (s : Stand) → Stands f judge s at → begun_act f s act ≡ remaking (suits block size align) s k (request_for block name size align) block

-- the block has room for so many bytes, where none count as one, and stands at a multiple of the alignment
abbrev pub IsSuited : Block → ℕ → ℕ → Type 0
IsSuited block size align = (max size 1 ≤ block.room) × (address_of block.name % align ≡ 0)

-- .. once thread k's entry is being logged
abbrev pub EntryLogged : Profile → List ℕ → Judge → Cursor → Judge → Cursor → ℕ → Entry → Bool → Type 0
EntryLogged f text old from new to k entry is = IsAnswered f text old from new to (λ s more. logging (is_full s k) s k entry more) is

-- ---- guards
-- .. once the keeper sweeps
abbrev pub GuardsSwept : Profile → List ℕ → Judge → Cursor → Judge → Cursor → ℕ → Bool → Bool → Type 0
GuardsSwept f text old from new to keeper all is = IsAnswered f text old from new to (λ s more. sweeping s keeper all more) is

-- The lines lead from here to where nothing is due, and as much is left of the plan.
abbrev pub IsCarried : Profile → List ℕ → Stand → Cursor → Judge → Cursor → Bool → Type 0
IsCarried f text s from new to is = Comes f text s from new to [] s.left is
