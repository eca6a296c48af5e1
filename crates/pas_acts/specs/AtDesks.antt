-- What one actor does for acts of its own at its desk, whatever stands beside it: in the order of the text others have their turns there, on threads they
-- sit elsewhere. What a name stands for is no table here: an operation is told what the freed or reallocated name means, and tells what the asked one came to.
use Rattle.std.specs.Prelude.{ℕ, ◌+◌, ◌≤◌, ◌≡◌, ◌≢◌, Bool, true, false, List, [], ◌∷◌, ◌++◌, length, Option}
use Rattle.pas_profile.specs.declared.{profile.Profile.Profile, name.Block.Block, event.Range.Range}
use Rattle.pas_steps.specs.{Clear.HasNothing, Desks.Standing, Lists.part}
use Rattle.pas_trace.specs.{declared.plan.{What.What, Op.Op}, Acts.{Act, Operates, Settles}}
use Rattle.pas_records.specs.{Rooms.{records_in, room_of, Records}, declared.record.Record.Record}
use Rattle.pas_cache.specs.{Caches.{Cached, AtRest}, Calls.SettlesEach}
use Rattle.pas_answers.specs.{Indexes.{request_by, IsNamedFor}, Answers.{Named, Progress, stopped}, Reaching.Reaches, Ways.EachOf, Calls.{MayStand, IsKnown}}
use Rattle.pas_answers.specs.{Calls.{IsMeant, owed_events}, Fit.{IsFitWhat, cost_of_what, cost_of_act, own_costs_of, unbacks_of_act}}
use Rattle.pas_acts.specs.{Works.{Later, Sits}, Turns.{RestsAt, Moves, Says}}

-- ---- a thread
-- what a thread has in hand: its desk, its cache and its records
pub record Here : Type 1 where
  pub desk : Standing
  pub cache : Cached
  pub out : Records

abbrev pub here : Standing → Cached → Records → Here
here desk c out = record { desk = desk; cache = c; out = out }

-- there is room for so many events and records more
abbrev pub and_for : ℕ → Later → Later
and_for cost later = record { events = cost + later.events; records = cost + later.records }

-- The thread rests, with room for the operation. The operation fits, a name that it frees or reallocates was asked for and stands for `meant`, which is nothing or a
-- block of the region.
pub record MayOperate (f : Profile) (k : ℕ) (what : What) (meant : Option Block) (old : Here) (later : Later) (p : Progress) : Type 0 where
  pub rests : RestsAt f k old.desk old.cache old.out (and_for (cost_of_what what) later) p
  pub limit : ℕ
  pub asked : List ℕ
  pub fit : IsFitWhat f limit asked what
  pub known : IsKnown p.names what
  pub means : IsMeant p.names what meant
  pub stands : MayStand f meant

-- Thread k did these acts, and rests again. The records of its steps came to its own; `told` is said besides, by whoever had it do so. These names came to
-- stand for something. Nothing of another actor changed. What it owed before, and the cost of the acts, pays for what it said with what it owes then.
pub record ThreadActs (f : Profile) (k : ℕ) (acts : List Act) (came : List Named) (told : List Record) (old new : Here) (later : Later) (p : Progress) : Type 0 where
  pub reached : Progress
  pub reaches : Reaches f acts p reached
  pub stands : RestsAt f k new.desk new.cache new.out later reached
  pub moves : Moves k (AtRest f old.cache) (AtRest f new.cache) old.desk new.desk p reached
  pub own : List Record
  pub records_are : reached.records ≡ p.records ++ (own ++ told)
  pub pushed : records_in new.out ≡ records_in old.out ++ own
  pub room : room_of new.out ≡ room_of old.out
  pub each : EachOf k own
  pub caches : (j : ℕ) → j ≢ k → reached.caches j ≡ p.caches j
  pub books : reached.books ≡ p.books
  pub names : reached.names ≡ came ++ p.names
  pub epoch : reached.epoch ≡ p.epoch
  pub paid : length own + owed_events f new.cache (part k reached.list) ≤ own_costs_of k acts + owed_events f old.cache (part k p.list)

-- ---- the door
-- What became of a door by the two acts of an operation: it was asked for a run where that makes a request for whole pages, and then handed the runs that the
-- cache noted.
abbrev pub GoesThrough : {Door : Type 0} → (Door → Door → ℕ → ℕ → Option ℕ → Type 0) → (Door → Door → ℕ → Range → Type 0)
    → (f : Profile) (op : Op) (p q : Progress) → Reaches f (Operates op ∷ (Settles op.actor ∷ [])) p q → Door → Door → Type 0
GoesThrough {Door} Answers HandsOn f op p q is door door' = (next : Door) × IsNamedFor f (Answers door next) (next ≡ door) (request_by p.names op.what) is.1.0.found × SettlesEach HandsOn (is.0.caches op.actor).noted next door'

-- what is to be said of an idle thread, where it was stopped
abbrev pub told_if : Bool → ℕ → List Record
told_if true k = stopped k
told_if false k = []

-- ---- the scavenger
-- it has nothing, and there is room for so many events and records
pub record HasRoomAt (f : Profile) (desk : Standing) (out : Records) (later : Later) (p : Progress) : Type 0 where
  pub sits : Sits f 0 HasNothing desk p.list later.events
  pub spare : length (records_in out) + later.records ≤ room_of out

-- room for the act, and for those of `later`
abbrev pub for_act : Profile → Act → Later → Later
for_act f act later = record { events = unbacks_of_act f.pages act + later.events; records = cost_of_act f.pages act + later.records }

-- The scavenger did this act, and has nothing again. Nothing of a thread changed.
pub record ScavengerActs (f : Profile) (act : Act) (desk desk' : Standing) (out out' : Records) (later : Later) (p : Progress) : Type 0 where
  pub reached : Progress
  pub reaches : Reaches f (act ∷ []) p reached
  pub stands : HasRoomAt f desk' out' later reached
  pub moves : Moves 0 HasNothing HasNothing desk desk' p reached
  pub says : Says 0 out out' p reached
  pub caches : reached.caches ≡ p.caches
  pub books : reached.books ≡ p.books
  pub names : reached.names ≡ p.names
