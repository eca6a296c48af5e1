-- What the acts of a plan keep, one after the other, and how many events and records they may make.
use Rattle.std.specs.Prelude.{ℕ, ◌+◌, ◌^◌, ◌<◌, ◌≤◌, ◌==◌, if◌then◌else◌, List, [], ◌∷◌, Option, None, Some, MatchOption}
use Rattle.pas_profile.specs.declared.profile.Profile.{Profile}
use Rattle.pas_trace.specs.{Asked.{work_of, request_of, request_in, keeper_in, cost_of_task}, Reasons.cost_of_size, EveryPlan.{asked_after, IsThread}}
use Rattle.pas_trace.specs.{EveryPlan.IsSoundTask, declared.{item.Request.Request, plan.{What.What, Task.Task, Work.Work, Op.Op}}, Acts.{Act, Operates, Guards}}
use Rattle.pas_trace.specs.Acts.{Settles, Ticks, MakesPass, ReadsEpoch, StopsIdle, MarksPhase, Wakes, MarksClose, Ends, Lowers, operation_in}
pub use Rattle.pas_trace.specs.EveryPlan.{IsBelow, AreBelow}

-- A thread's operation can be replayed after those that asked for these names: it may follow them, and a name that it asks for is below the limit.
abbrev pub IsFitTask : Profile → ℕ → List ℕ → Task → Type 0
IsFitTask f limit asked task = MatchOption (request_of task) (Unit {0}) (λ r. r.name < limit) × IsSoundTask f asked task

abbrev pub IsFitWork : Profile → ℕ → List ℕ → Work → Type 0
IsFitWork f limit asked (Work.Own task) = IsFitTask f limit asked task
IsFitWork f limit asked (Work.Chore chore) = ⊥

abbrev pub IsFitWhat : Profile → ℕ → List ℕ → What → Type 0
IsFitWhat f limit asked what = IsFitWork f limit asked (work_of what)

-- The acts can be done one after the other: each operation is of a thread, and fits, and a guard is kept by another actor of the region; no epoch is asked for that a word can't hold. All others fit anywhere.
abbrev pub AreFit : Profile → ℕ → List ℕ → List Act → Type 0
AreFit f limit asked [] = Unit {0}
AreFit f limit asked (Operates op ∷ acts) = IsThread f op.actor × IsFitWhat f limit asked op.what × AreFit f limit (asked_after op.what asked) acts
AreFit f limit asked (Guards keeper op ∷ acts) = IsThread f keeper × (op.actor < keeper) × IsThread f op.actor × IsFitWhat f limit asked op.what × AreFit f limit (asked_after op.what asked) acts
AreFit f limit asked (Ticks epoch ∷ acts) = (epoch < 2 ^ 40) × AreFit f limit asked acts
AreFit f limit asked (act ∷ acts) = AreFit f limit asked acts

-- each operation among the acts is of one of so many threads
abbrev pub AreOfThreads : ℕ → List Act → Type 0
AreOfThreads threads [] = Unit {0}
AreOfThreads threads (act ∷ acts) = MatchOption (operation_in act) (Unit {0}) (λ op. op.actor ≤ threads) × AreOfThreads threads acts

-- ---- costs
-- what acts cost together
abbrev pub sum_over : (Act → ℕ) → List Act → ℕ
sum_over cost [] = 0
sum_over cost (act ∷ acts) = cost act + sum_over cost acts

-- how many events an operation of a thread may make in the end, beside a deed; a free makes its one at a flush
abbrev pub cost_of_work : Work → ℕ
cost_of_work (Work.Own task) = cost_of_task task
cost_of_work (Work.Chore chore) = 0

abbrev pub cost_of_what : What → ℕ
cost_of_what what = cost_of_work (work_of what)

-- how many records an act may make in the end, beside deeds, in a region of so many pages. A pass says its epoch, and then what it came to on each page. A
-- guarded request pays for that its guard went up and is lowered.
abbrev pub cost_of_act : ℕ → Act → ℕ
cost_of_act pages (Operates op) = cost_of_what op.what
cost_of_act pages (Guards keeper op) = cost_of_what op.what
cost_of_act pages (Settles k) = 0
cost_of_act pages (Ticks epoch) = 1
cost_of_act pages MakesPass = 1 + pages
cost_of_act pages ReadsEpoch = 0
cost_of_act pages (StopsIdle k n) = 1
cost_of_act pages (MarksPhase n) = 1
cost_of_act pages (Wakes k) = 0
cost_of_act pages MarksClose = 1
cost_of_act pages (Ends k) = 0
cost_of_act pages (Lowers keeper) = 0

abbrev pub costs_of : ℕ → List Act → ℕ
costs_of pages acts = sum_over (cost_of_act pages) acts

-- how many events of thread k an act may make in the end, beside deeds
abbrev pub own_cost_of : ℕ → Option Op → ℕ
own_cost_of k None = 0
own_cost_of k (Some op) = if op.actor == k then cost_of_what op.what else 0

abbrev pub own_cost_of_act : ℕ → Act → ℕ
own_cost_of_act k act = own_cost_of k (operation_in act)

abbrev pub own_costs_of : ℕ → List Act → ℕ
own_costs_of k acts = sum_over (own_cost_of_act k) acts

-- .. and how many a keeper, beside deeds: those of a request without a guard, for each that it tries
abbrev pub kept_cost_of : Option Request → ℕ
kept_cost_of None = 0
kept_cost_of (Some r) = cost_of_size r.size

abbrev pub kept_cost_of_act : ℕ → Act → ℕ
kept_cost_of_act k (Guards keeper op) = if keeper == k then kept_cost_of (request_in op.what) else 0
kept_cost_of_act k act = 0

abbrev pub kept_costs_of : ℕ → List Act → ℕ
kept_costs_of k acts = sum_over (kept_cost_of_act k) acts

-- .. and how many the scavenger: a pass unbacks each page once at most, and nothing else unbacks one
abbrev pub unbacks_of_act : ℕ → Act → ℕ
unbacks_of_act pages MakesPass = pages
unbacks_of_act pages act = 0

abbrev pub unbacks_of : ℕ → List Act → ℕ
unbacks_of pages acts = sum_over (unbacks_of_act pages) acts

-- ---- the names of the operations of all phases are below the limit
abbrev pub AllBelow : ℕ → List (List Op) → Type 0
AllBelow limit [] = Unit {0}
AllBelow limit (phase ∷ phases) = AreBelow limit phase × AllBelow limit phases

-- ---- who keeps guards
-- a guard is kept by an actor of the region behind the thread
abbrev pub KeepsAbove : Profile → Op → Type 0
KeepsAbove f op = MatchOption (keeper_in op.what) (Unit {0}) (λ keeper. IsThread f keeper × (op.actor < keeper))
