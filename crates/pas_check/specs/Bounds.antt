-- States whose numbers fit, as those of each check do.
use Rattle.std.specs.Prelude.{ℕ, ◌^◌, ◌<◌, ◌≤◌, ◌≡◌, ◌≢◌, ◌⊎◌, List, [], ◌∷◌, Some, length}
use Rattle.pas_profile.specs.{Directories.IsKind, Profiles.IsValid, Requests.room_in, declared.{directory.Directory.Directory, event.Event.Event}}
use Rattle.pas_profile.specs.declared.{name.Block.Block, profile.Profile.Profile}
use Rattle.pas_machine.specs.{Machine.Run, State.{deed_in, gives_in, epoch_in}}
use Rattle.pas_records.specs.declared.record.Record.{Record}
use Rattle.pas_trace.specs.{declared.item.Request.Request, Named.{Named, standing_for}}
use Rattle.pas_check.specs.{States.{Due, Writes, Frees, Serves, Tries, Never, Examines, Heads, Shows, Totals, Stand}, Ranges.{Fits, FitsEntry}, Takes.IsOutcome}
use Rattle.pas_check.specs.{Takes.directory_of, declared.cutting.Cursor.Cursor}

pub record FitsRequest (f : Profile) (k : ℕ) (r : Request) : Type 0 where
  pub actor : k < 2 ^ 8
  pub name : r.name < 2 ^ 32
  pub heap : r.heap < 2 ^ 8
  pub kind : IsKind (directory_of f r).kind
  pub room : room_in f r.size r.align < 2 ^ 32

-- .. for a keeper that is no thread of its own
pub record FitsTry (f : Profile) (keeper k : ℕ) (r : Request) : Type 0 where
  pub own : FitsRequest f k r
  pub kept : FitsRequest f keeper r
  pub apart : keeper ≢ k

-- what is due first
abbrev pub FitsFirst : Profile → List Due → Type 0
FitsFirst f [] = Unit {0}
FitsFirst f (Writes item ∷ more) = Unit {0}
FitsFirst f (Frees k entry ∷ more) = Unit {0}
FitsFirst f (Serves k r old ∷ more) = FitsRequest f k r
FitsFirst f (Tries keeper k r backed ∷ more) = FitsTry f keeper k r
FitsFirst f (Never ∷ more) = Unit {0}
FitsFirst f (Examines page ∷ more) = Unit {0}
FitsFirst f (Heads ∷ more) = Unit {0}
FitsFirst f (Shows page d ∷ more) = Unit {0}
FitsFirst f (Totals ∷ more) = Unit {0}

-- a thread says it
abbrev pub IsOfThread : Record → Type 0
IsOfThread (Record.Event e) = ⊥
IsOfThread (Record.Said k said) = (0 < k) × (k < 2 ^ 8)
IsOfThread (Record.Phase n) = ⊥
IsOfThread Record.Close = ⊥

-- What is due first after a pass: its line is to be told from those of the outcomes, which are the scavenger's. So it is a thread's; or its numbers fit, and
-- it is no outcome.
abbrev pub FitsNext : Profile → List Due → Type 0
FitsNext f [] = Unit {0}
FitsNext f (Writes item ∷ more) = IsOfThread item ⊎ (Fits item × (IsOutcome item → ⊥))
FitsNext f (Frees k entry ∷ more) = (k < 2 ^ 8) × ((0 < k) ⊎ FitsEntry entry)
FitsNext f (Serves k r old ∷ more) = FitsRequest f k r
FitsNext f (Tries keeper k r backed ∷ more) = FitsTry f keeper k r
FitsNext f (Never ∷ more) = Unit {0}
FitsNext f (Examines page ∷ more) = Unit {0}
FitsNext f (Heads ∷ more) = Unit {0}
FitsNext f (Shows page d ∷ more) = Unit {0}
FitsNext f (Totals ∷ more) = Unit {0}

-- each block that a name stands for is of one of 32 heaps
abbrev pub HaveHeaps : List Named → Type 0
HaveHeaps names = (name : ℕ) (block : Block) → standing_for names name ≡ Some (Some block) → block.heap < 32

-- the events so far are a run of few blocks, at small epochs
pub record IsSmall (f : Profile) (s : Stand) : Type 0 where
  pub valid : IsValid f
  pub run : Run f s.events
  pub gives : (address : ℕ) → gives_in s.events address < 2 ^ 64
  pub ends : (page : ℕ) → epoch_in s.events page < 2 ^ 64
  pub epoch : s.epoch < 2 ^ 64

-- fewer events than the machine counts at an address
abbrev pub IsFew : List Event → Type 0
IsFew es = length es < 2 ^ 32

-- There are no more events than lines before the cursor, no end has a later epoch than the greatest tick, and each deed names a class where it is of one.
pub record IsKept (s : Stand) (at : Cursor) : Type 0 where
  pub few : length s.events ≤ at.lines
  pub kinds : (page : ℕ) (d : Directory) → deed_in s.events page ≡ Some d → IsKind d.kind
  pub ends : (page : ℕ) → epoch_in s.events page ≤ s.epoch
