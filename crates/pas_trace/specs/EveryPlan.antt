-- What the plan of every text keeps.
use Rattle.std.specs.Prelude.{ℕ, ◌+◌, ◌-◌, ◌*◌, ◌%◌, ◌^◌, ◌<◌, ◌≤◌, ◌≡◌, ◌≢◌, ◌==◌, ◌||◌, Bool, true, false, if◌then◌else◌, List, [], ◌∷◌, ◌++◌, map, length}
use Rattle.std.specs.Prelude.{slice_index, Option, None, Some, MatchOption}
use Rattle.pas_profile.specs.{Profiles.{IsValid, IsAdmitted}, declared.profile.Profile.Profile}
use Rattle.pas_trace.specs.{Asked.{work_of, request_in, keeper_in, epoch_of, cost_of_task}, Reasons.{cost_of_size, actors_by}, Plans.{ops_of, phases_of}}
use Rattle.pas_trace.specs.{Plans.bounds_of, declared.{plan.{What.What, Task.Task, Work.Work, Op.Op, Plan.Plan}, item.Request.Request}}
pub use Rattle.pas_trace.specs.Reasons.{records_of_chore}

-- the operations of all phases, in the order of the text
abbrev pub all_ops : List (List Op) → List Op
all_ops [] = []
all_ops (phase ∷ phases) = phase ++ all_ops phases

abbrev pub operations_of : Plan → List Op
operations_of plan = all_ops (map ops_of (phases_of plan.phases))

-- ---- names
-- the name is one of these
abbrev pub is_asked : List ℕ → ℕ → Bool
is_asked [] name = false
is_asked (n ∷ ns) name = (n == name) || is_asked ns name

-- the names that were asked for, after an operation
abbrev pub asked_with : Option Request → List ℕ → List ℕ
asked_with None asked = asked
asked_with (Some request) asked = request.name ∷ asked

abbrev pub asked_after : What → List ℕ → List ℕ
asked_after what asked = asked_with (request_in what) asked

-- .. and after several
abbrev pub asked_by : List ℕ → List Op → List ℕ
asked_by asked [] = asked
asked_by asked (op ∷ ops) = asked_by (asked_after op.what asked) ops

-- ---- the names that are asked for are below the limit
abbrev pub IsBelow : ℕ → What → Type 0
IsBelow limit what = MatchOption (request_in what) (Unit {0}) (λ request. request.name < limit)

abbrev pub AreBelow : ℕ → List Op → Type 0
AreBelow limit [] = Unit {0}
AreBelow limit (op ∷ ops) = IsBelow limit op.what × AreBelow limit ops

-- ---- operations that follow one another
abbrev pub IsThread : Profile → ℕ → Type 0
IsThread f k = (1 ≤ k) × (k ≤ f.threads)

-- The actor may make the operation: a tick, a pass and an idle operation are the scavenger's, all others those of threads.
abbrev pub IsActorBy : Profile → Work → ℕ → Type 0
IsActorBy f (Work.Own task) k = IsThread f k
IsActorBy f (Work.Chore chore) k = k ≡ 0

abbrev pub IsActorOf : Profile → What → ℕ → Type 0
IsActorOf f what k = IsActorBy f (work_of what) k

-- a room that a free names is of whole grains, of one at least, and no larger than the region
abbrev pub IsRoomNamed : Profile → Option ℕ → Type 0
IsRoomNamed f room = MatchOption room (Unit {0}) (λ r. (r % 16 ≡ 0) × (16 ≤ r) × (r ≤ 4096 * f.pages))

-- The operation may follow those that asked for these names. A request has a new name, and its heap, size and alignment are of the profile, and so
-- has a reallocation; one that is guarded is for whole pages; what is freed or reallocated has a name that was asked for; a turn has a next one; a room is one that a block of the region may have; epochs are below 2^40.
abbrev pub IsSoundTask : Profile → List ℕ → Task → Type 0
IsSoundTask f asked (Task.Request name heap size align) = IsAdmitted f size align heap × (is_asked asked name ≡ false)
IsSoundTask f asked (Task.Guarded keeper name heap size align) = IsAdmitted f size align heap × (is_asked asked name ≡ false) × (2048 < size)
IsSoundTask f asked (Task.Free name room) = (is_asked asked name ≡ true) × IsRoomNamed f room
IsSoundTask f asked (Task.FreeRaw block room) = (block.turn < 2 ^ 40 - 1) × IsRoomNamed f room
IsSoundTask f asked (Task.Remake name old heap size align) = IsAdmitted f size align heap × (is_asked asked name ≡ false) × (is_asked asked old ≡ true)
IsSoundTask f asked Task.Flush = Unit {0}
IsSoundTask f asked Task.Stop = Unit {0}

abbrev pub IsSoundWork : Profile → List ℕ → Work → Type 0
IsSoundWork f asked (Work.Own task) = IsSoundTask f asked task
IsSoundWork f asked (Work.Chore chore) = MatchOption (epoch_of chore) (Unit {0}) (λ epoch. epoch < 2 ^ 40)

abbrev pub IsSoundWhat : Profile → List ℕ → What → Type 0
IsSoundWhat f asked what = IsSoundWork f asked (work_of what)

abbrev pub AreSound : Profile → List ℕ → List Op → Type 0
AreSound f asked [] = Unit {0}
AreSound f asked (op ∷ ops) = IsActorOf f op.what op.actor × IsSoundWhat f asked op.what × AreSound f (asked_after op.what asked) ops

-- ---- who keeps guards
-- The guard of a guarded request is kept by the actor behind all threads that has its thread's place among the keepers; only in a guarded trace is one guarded.
abbrev pub IsKept : Profile → ℕ → Op → Type 0
IsKept f guard op = MatchOption (keeper_in op.what) (Unit {0}) (λ keeper. (keeper ≡ f.threads + op.actor) × (guard ≢ 0))

abbrev pub AreKept : Profile → ℕ → List Op → Type 0
AreKept f guard [] = Unit {0}
AreKept f guard (op ∷ ops) = IsKept f guard op × AreKept f guard ops

-- ---- how many records operations may make, beside a deed for each actor and page
abbrev pub records_of_work : Profile → Work → ℕ
records_of_work f (Work.Own task) = cost_of_task task
records_of_work f (Work.Chore chore) = records_of_chore f chore

abbrev pub records_of_what : Profile → What → ℕ
records_of_what f what = records_of_work f (work_of what)

abbrev pub records_of_ops : Profile → List Op → ℕ
records_of_ops f [] = 0
records_of_ops f (op ∷ ops) = records_of_what f op.what + records_of_ops f ops

-- .. those of actor k among them
abbrev pub own_records : Profile → ℕ → List Op → ℕ
own_records f k [] = 0
own_records f k (op ∷ ops) = (if op.actor == k then records_of_what f op.what else 0) + own_records f k ops

-- .. and how many events a keeper may make for them, beside deeds: for each guarded request of thread k as many as the thread itself
abbrev pub kept_of_work : Work → ℕ
kept_of_work (Work.Own (Task.Request name heap size align)) = 0
kept_of_work (Work.Own (Task.Guarded keeper name heap size align)) = cost_of_size size
kept_of_work (Work.Own (Task.Free name room)) = 0
kept_of_work (Work.Own (Task.FreeRaw block room)) = 0
kept_of_work (Work.Own (Task.Remake name old heap size align)) = 0
kept_of_work (Work.Own Task.Flush) = 0
kept_of_work (Work.Own Task.Stop) = 0
kept_of_work (Work.Chore chore) = 0

abbrev pub kept_records : ℕ → List Op → ℕ
kept_records k [] = 0
kept_records k (op ∷ ops) = (if op.actor == k then kept_of_work (work_of op.what) else 0) + kept_records k ops

-- ---- the plan of a text
-- Its bounds suffice, and without a `guard` line they are exact. In a guarded trace those of the scavenger and the keepers are, and in the others and the total a request
-- for whole pages that isn't guarded, and a reallocation to whole pages, count two more than they may make.
pub record IsSound (text : List ℕ) (plan : Plan) : Type 0 where
  pub valid : IsValid plan.profile
  pub operations : AreSound plan.profile [] (operations_of plan)
  pub names : AreBelow plan.names_limit (operations_of plan)
  pub phases : length (phases_of plan.phases) ≤ length text + 1
  pub actors : actors_by plan.guard plan.profile.threads ≤ 16
  pub keepers : AreKept plan.profile plan.guard (operations_of plan)
  pub count : length (bounds_of plan.bounds) ≡ actors_by plan.guard plan.profile.threads + 1
  pub scavenger : slice_index (bounds_of plan.bounds) 0 ≡ own_records plan.profile 0 (operations_of plan)
  pub own : (k : ℕ) → 1 ≤ k → k ≤ plan.profile.threads
      → plan.profile.pages + own_records plan.profile k (operations_of plan) ≤ slice_index (bounds_of plan.bounds) k
  pub exact_own : plan.guard ≡ 0 → (k : ℕ) → 1 ≤ k → k ≤ plan.profile.threads
      → slice_index (bounds_of plan.bounds) k ≡ plan.profile.pages + own_records plan.profile k (operations_of plan)
  pub kept : (k : ℕ) → plan.guard ≢ 0 → 1 ≤ k → k ≤ plan.profile.threads
      → slice_index (bounds_of plan.bounds) (plan.profile.threads + k) ≡ plan.profile.pages + kept_records k (operations_of plan)
  pub total : actors_by plan.guard plan.profile.threads * plan.profile.pages + records_of_ops plan.profile (operations_of plan) ≤ plan.total
  pub exact_total : plan.guard ≡ 0 → plan.total ≡ plan.profile.threads * plan.profile.pages + records_of_ops plan.profile (operations_of plan)
