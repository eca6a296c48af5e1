-- A replay whose records are handed on while it goes on: how much room it needs, and what stands between two operations.
use Rattle.std.specs.Prelude.{ℕ, ◌+◌, ◌*◌, ◌≤◌, ◌≡◌, List, [], ◌++◌, length, Option, None, Some, MatchOption}
use Rattle.pas_profile.specs.declared.profile.Profile.{Profile}
use Rattle.pas_trace.specs.{Acts.{Act, acts_of}, declared.plan.{Op.Op, Plan.Plan}}
use Rattle.pas_answers.specs.{Fit.costs_of, Replays.{phases_of, region_of}}
use Rattle.pas_replay.specs.Sessions.{Replay, Left, Hand, Session, SoFar, SoFarAt, telling}
use Rattle.pas_records.specs.{Rooms.{records_in, Records}, declared.record.Record.Record}

-- What an operation may say, as a pass of all pages, the stops of all threads or a guarded request for all pages.
abbrev pub dearest : Profile → ℕ
dearest f = f.pages + f.threads + 3

-- .. with what the actors owe: each a deed of each page, and the end of each entry of its log
abbrev pub room_for_acts : Profile → ℕ
room_for_acts f = f.threads * (f.pages + 64) + dearest f

-- The room for the records of a plan, by how many wait at most once some were taken: for those and for what one operation may say then; and where any number may
-- wait, for all.
abbrev pub room_for_taker : Option ℕ → Plan → ℕ
room_for_taker None plan = plan.total + length (phases_of plan) + 1
room_for_taker (Some most) plan = most + room_for_acts (region_of plan)

-- for how many records there is room between two operations, beside those that are owed: for all that are to come where none is taken
abbrev pub room_between : Option ℕ → Profile → List Act → ℕ
room_between None f acts = costs_of f.pages acts
room_between (Some most) f acts = 0

abbrev pub left_between : Option ℕ → Replay → List Act → Left
left_between waits r acts = record { acts = acts; room = room_between waits r.profile acts }

-- so few records wait
abbrev pub FewWait : Option ℕ → Replay → Records → Type 0
FewWait waits r out = MatchOption waits (Unit {0}) (λ most. (length (records_in out) ≤ most) × (most + room_for_acts r.profile ≤ r.room))

-- these acts are left between two operations
abbrev pub Between : Option ℕ → Replay → List Act → Session → Type 0
Between waits r acts s = SoFarAt r (left_between waits r acts) s × FewWait waits r s.out

-- in some replay these acts come next
abbrev pub MayHandOn : Option ℕ → (ℕ → List Act) → Session → Type 0
MayHandOn waits acts s = (r : Replay) × (more : List Act) × Between waits r (acts r.threads ++ more) s

-- Some records were taken, and in each replay in which the acts of such operations come next, those after them are left afterwards.
abbrev pub HandsOn : Option ℕ → (List Record → Type 0) → (List Op → Type 0) → (ℕ → List Op → List Act) → Session → Session → Type 0
HandsOn waits Took Are acts before after = (told : List Record) × Took told
    × ((ops : List Op) → Are ops → (r : Replay) (more : List Act) → Between waits r (acts r.threads ops ++ more) before → Between waits (telling r told) more after)

-- all acts of the replay are left, which are those of these phases
abbrev pub Begins : Option ℕ → List (List Op) → Replay → Hand → Type 0
Begins waits phases r h = (r.acts ≡ acts_of r.threads r.keepers phases) × SoFar r (left_between waits r r.acts) h × FewWait waits r h.out

-- the whole replay of such phases, some records of which were taken
abbrev pub Replays : Option ℕ → (List Record → Type 0) → (List (List Op) → Type 0) → Hand → Hand → Type 0
Replays waits Took Are before after = (told : List Record) × Took told
    × ((phases : List (List Op)) → Are phases → (r : Replay) → Begins waits phases r before → SoFar (telling r told) (left_between waits r []) after)
