-- What the names of a trace stand for in a phase on threads. What they stood for before it is kept once, for all threads; what a thread's own requests came
-- to in the phase is kept with the thread, and comes to the book after the phase.
use Rattle.std.specs.Prelude.{ℕ, zero, suc, ◌+◌, ◌<◌, ◌≡◌, ◌==◌, if◌then◌else◌, List, [], ◌∷◌, ◌++◌, map, slice_index_or, Option, None, Some}
use Rattle.std.specs.List.{AllByRecursion}
use Rattle.pas_profile.specs.{declared.{profile.Profile.Profile, name.Block.Block}, Rooms.Holding}
use Rattle.pas_trace.specs.{EveryPlan.{asked_after, AreSound}, Acts.{Act, asked_after_act}, declared.plan.{What.What, Op.Op}}
use Rattle.pas_answers.specs.{Answers.{Named, named, standing_for, Progress}, Calls.{Tells, AllMayStand, AreKnown, OnlyAsked}, Fit.{KeepsAbove, AreBelow}}
use Rattle.pas_answers.specs.Names.{block_in, block_named, names_held}
use Rattle.pas_acts.specs.declared.names.{NameBook.NameBook, Request.Request}

-- ---- a thread's own requests
-- the name of a request, with what it came to
abbrev pub named_of : Request → Named
named_of r = named r.name (block_in r.meaning)

abbrev pub Requests : Type 0
Requests = Holding Request

-- the requests in order, and for how many there is room
abbrev pub requests_in : Requests → List Named
requests_in requests = map named_of requests.items

abbrev pub room_for : Requests → ℕ
room_for requests = requests.bound

abbrev pub names_of : List Named → List ℕ
names_of [] = []
names_of (r ∷ rs) = r.name ∷ names_of rs

-- what the request at a place came to, where it has the name
abbrev pub request_at : List Named → ℕ → ℕ → Option (Option Block)
request_at [] place n = None
request_at (r ∷ rs) zero n = if r.name == n then Some r.block else None
request_at (r ∷ rs) (suc place) n = request_at rs place n

-- the names that an operation asks for, and those of acts, in order
abbrev pub name_asked : What → List ℕ
name_asked what = asked_after what []

abbrev pub name_asked_by : Act → List ℕ
name_asked_by act = asked_after_act act []

abbrev pub names_asked : List Act → List ℕ
names_asked [] = []
names_asked (act ∷ acts) = name_asked_by act ++ names_asked acts

-- ---- places
-- the place of a name among those that its thread asks for in the phase
abbrev pub place_in : NameBook → ℕ → ℕ
place_in book n = slice_index_or book.places.items n 0

-- these names have the places from i on, in order
abbrev pub ArePlaced : NameBook → ℕ → List ℕ → Type 0
ArePlaced book i [] = Unit {0}
ArePlaced book i (n ∷ ns) = (place_in book n ≡ i) × ArePlaced book (i + 1) ns

-- each of these names is below the limit
abbrev pub AreWithin : ℕ → List ℕ → Type 0
AreWithin limit [] = Unit {0}
AreWithin limit (n ∷ ns) = (n < limit) × AreWithin limit ns

-- ---- what a name stands for to a thread
-- what its request came to, where there is one; what it stands for else
abbrev pub came_to : Option (Option Block) → Option Block → Option Block
came_to None other = other
came_to (Some block) other = block

abbrev pub known_in : NameBook → Requests → ℕ → Option Block
known_in book requests n = came_to (standing_for (requests_in requests) n) (block_named book.names n)

-- the book of a phase and a thread's requests in it
pub record Table : Type 0 where
  pub book : NameBook
  pub requests : Requests

abbrev pub table : NameBook → Requests → Table
table book requests = record { book = book; requests = requests }

-- ---- the phases
-- Before a phase: these operations are left, from the phase's on, and the book says what all names stand for.
pub record NamesAt (f : Profile) (ops : List Op) (book : NameBook) (p : Progress) : Type 0 where
  pub asked : List ℕ
  pub sound : AreSound f asked ops
  pub above : AllByRecursion (KeepsAbove f) ops
  pub below : AreBelow (names_held book.names) ops
  pub tells : Tells book.names p.names
  pub stand : AllMayStand f book.names
  pub known : AreKnown asked p.names
  pub only : OnlyAsked asked p.names
