-- What an operation asks for, in few tables, by which all that is said of operations goes.
use Rattle.std.specs.Prelude.{ℕ, ◌+◌, Option, None, Some}
use Rattle.pas_trace.specs.{Reasons.cost_of_size, declared.{item.Request.Request, plan.What.{What, TheVariants.{Alloc, Guarded, Free, FreeSized, Raw}}}}
use Rattle.pas_trace.specs.declared.plan.{What.TheVariants.{RawSized, Remake, Flush, Stop, Tick, Pass, Idle}, Task.Task, Chore.Chore, Work.Work}

-- who acts, and for what
abbrev pub work_of : What → Work
work_of (Alloc name heap size align) = Work.Own (Task.Request name heap size align)
work_of (Guarded keeper name heap size align) = Work.Own (Task.Guarded keeper name heap size align)
work_of (Free name) = Work.Own (Task.Free name None)
work_of (FreeSized name room) = Work.Own (Task.Free name (Some room))
work_of (Raw block) = Work.Own (Task.FreeRaw block None)
work_of (RawSized room block) = Work.Own (Task.FreeRaw block (Some room))
work_of (Remake name old heap size align) = Work.Own (Task.Remake name old heap size align)
work_of Flush = Work.Own Task.Flush
work_of Stop = Work.Own Task.Stop
work_of (Tick epoch) = Work.Chore (Chore.Tick epoch)
work_of Pass = Work.Chore Chore.Pass
work_of (Idle n) = Work.Chore (Chore.Idle n)

-- ---- what a thread is asked for
-- a request: its name, its heap, how many bytes, and at a multiple of what
abbrev pub request_of : Task → Option Request
request_of (Task.Request name heap size align) = Some record { name = name; heap = heap; size = size; align = align }
request_of (Task.Guarded keeper name heap size align) = Some record { name = name; heap = heap; size = size; align = align }
request_of (Task.Free name room) = None
request_of (Task.FreeRaw block room) = None
request_of (Task.Remake name old heap size align) = Some record { name = name; heap = heap; size = size; align = align }
request_of Task.Flush = None
request_of Task.Stop = None

-- the name that is freed or reallocated
abbrev pub freed_of : Task → Option ℕ
freed_of (Task.Request name heap size align) = None
freed_of (Task.Guarded keeper name heap size align) = None
freed_of (Task.Free name room) = Some name
freed_of (Task.FreeRaw block room) = None
freed_of (Task.Remake name old heap size align) = Some old
freed_of Task.Flush = None
freed_of Task.Stop = None

-- the actor that keeps its guard, where it is guarded
abbrev pub keeper_of : Task → Option ℕ
keeper_of (Task.Request name heap size align) = None
keeper_of (Task.Guarded keeper name heap size align) = Some keeper
keeper_of (Task.Free name room) = None
keeper_of (Task.FreeRaw block room) = None
keeper_of (Task.Remake name old heap size align) = None
keeper_of Task.Flush = None
keeper_of Task.Stop = None

-- how many records it may make, beside deeds: a guarded request two more, that a guard went up and was lowered
abbrev pub cost_of_task : Task → ℕ
cost_of_task (Task.Request name heap size align) = cost_of_size size
cost_of_task (Task.Guarded keeper name heap size align) = cost_of_size size + 2
cost_of_task (Task.Free name room) = 1
cost_of_task (Task.FreeRaw block room) = 1
cost_of_task (Task.Remake name old heap size align) = cost_of_size size + 1
cost_of_task Task.Flush = 0
cost_of_task Task.Stop = 0

-- ---- the same of an operation, of which those of the scavenger have none
abbrev pub of_task : {A : Type 0} → (Task → Option A) → Work → Option A
of_task has (Work.Own task) = has task
of_task has (Work.Chore chore) = None

abbrev pub request_in : What → Option Request
request_in what = of_task request_of (work_of what)

abbrev pub freed_in : What → Option ℕ
freed_in what = of_task freed_of (work_of what)

abbrev pub keeper_in : What → Option ℕ
keeper_in what = of_task keeper_of (work_of what)

-- ---- what the scavenger is asked for
-- the epoch, or the number of epochs, that it is told
abbrev pub epoch_of : Chore → Option ℕ
epoch_of (Chore.Tick epoch) = Some epoch
epoch_of Chore.Pass = None
epoch_of (Chore.Idle n) = Some n
