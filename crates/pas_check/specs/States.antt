-- What stands before a line of a transcript, as far as it matters for the line: no words of a region, no views, rights or cached slots.
use Rattle.std.specs.Prelude.{ℕ, ◌==◌, Bool, if◌then◌else◌, List, [], ◌∷◌, ◌++◌, map, Option}
use Rattle.pas_profile.specs.declared.{directory.Directory.Directory, event.Event.Event, name.{Block.Block, Name.Name}, entry.Entry.Entry, guard.Raised.Raised}
use Rattle.pas_records.specs.declared.record.Record.{Record}
use Rattle.pas_trace.specs.{declared.{plan.Plan.Plan, item.Request.Request}, Acts.{Act, acts_of_plan}, Named.Named}

-- ---- what is due
-- What the next lines are to answer. `Writes`: the line of just this record. `Frees`: the line of an entry of thread k's log. `Serves`: those of a request of
-- thread k, which are deeds and backs, as many as there are, and then a give or a refusal; after a give the name that it replaces is logged, if there is one.
-- `Tries`: those of a keeper for a guarded request of thread k, which are deeds and backs, as many as there are, and then a give; where the keeper has backed
-- none, which the last says, those of the thread may come instead. `Never`: no line can come.
-- `Examines`: the outcomes of a pass on pages after this one, as many
-- as there are. The report: its head, the line of each page with a deed, which has this directory, and the line of the totals.
pub data Due : Type 0 where
  Writes : Record → Due
  Frees : ℕ → Entry → Due
  Serves : ℕ → Request → Option Name → Due
  Tries : ℕ → ℕ → Request → Bool → Due
  Never : Due
  Examines : ℕ → Due
  Heads : Due
  Shows : ℕ → Directory → Due
  Totals : Due

-- what is to be begun once nothing is due: an act of the plan, or the report
pub data Task : Type 0 where
  Does : Act → Task
  Reports : Task

-- ---- tables by thread
abbrev pub with_at : {A : Type 0} → (ℕ → A) → ℕ → A → ℕ → A
with_at table k value j = if j == k then value else table j

-- ---- the state
-- The events so far, the newest first; what the names of the trace stand for; the log of each thread, in order; the epoch that each thread read at the
-- start of the last phase in which it had an operation; the greatest tick; the guards of all keepers that are up, in the order in which they went up; what
-- is due; and what is left of the plan.
pub record Stand : Type 0 where
  pub events : List Event
  pub names : List Named
  pub logs : ℕ → List Entry
  pub idle_since : ℕ → ℕ
  pub epoch : ℕ
  pub guards : List Raised
  pub due : List Due
  pub left : List Task

-- .. with this due
abbrev pub with_due : Stand → List Due → Stand
with_due s due = record s { due = due }

-- .. after an event, the newest
abbrev pub with_one : Stand → Event → Stand
with_one s e = record s { events = e ∷ s.events }

-- .. after a request: its name stands for this block, or for nothing
abbrev pub with_name : Stand → ℕ → Option Block → Stand
with_name s name block = record s { names = record { name = name; block = block } ∷ s.names }

-- the tasks of a plan: its acts in order, and then the report
abbrev pub tasks_of : Plan → List Task
tasks_of plan = map Does (acts_of_plan plan) ++ Reports ∷ []

-- before the first line
abbrev pub at_first : Plan → Stand
at_first plan = record { events = []; names = []; logs = λ k. []; idle_since = λ k. 0; epoch = 0; guards = []; due = []; left = tasks_of plan }
