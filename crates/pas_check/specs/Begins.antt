-- How the acts of a plan are begun: what becomes due, and what changes without a line.
use Rattle.std.specs.Prelude.{ℕ, zero, suc, ◌+◌, ◌-◌, ◌/◌, ◌%◌, ◌==◌, nat_le, nat_lt, ◌&&◌, ◌||◌, not, Bool, true, false, List, [], ◌∷◌, ◌++◌, length, map, max}
use Rattle.std.specs.{Prelude.{Option, None, Some}, List.filter}
use Rattle.pas_profile.specs.declared.{directory.Directory.Directory, event.Event.Event, name.{Block.Block, Name.Name}, profile.Profile.Profile}
use Rattle.pas_profile.specs.{declared.{entry.Entry.Entry, guard.{Guard.Guard, Raised.Raised}}, Blocks.{address_of, grain_of, length_of}, Entries.entry_of}
use Rattle.pas_profile.specs.{Entries.sized_entry, Guards.raised_by}
use Rattle.pas_machine.specs.State.{deed_in, ends_in}
use Rattle.pas_trace.specs.declared.plan.What.{What, TheVariants.{Alloc, Guarded, Free, FreeSized, Raw, RawSized, Remake, Flush, Stop, Tick, Pass, Idle}}
use Rattle.pas_trace.specs.{declared.item.Request.Request, Asked.request_in, Named.standing_for, Acts.{Act, Operates, Guards, Settles, Ticks, MakesPass}}
use Rattle.pas_trace.specs.Acts.{ReadsEpoch, StopsIdle, MarksPhase, Wakes, MarksClose, Ends, Lowers}
use Rattle.pas_records.specs.declared.record.{Record.Record, Said.Said}
pub use Rattle.pas_trace.specs.Named.{suits, request_for}
use Rattle.pas_check.specs.States.{Due, Writes, Frees, Serves, Tries, Never, Examines, Heads, Shows, Totals, Task, Does, Reports, Stand, with_at, with_due}
use Rattle.pas_check.specs.States.{with_name}

-- the line of just this record is due
abbrev pub says : Stand → Record → Stand
says s item = with_due s (Writes item ∷ [])

-- actor k says this
abbrev pub tells : Stand → ℕ → Said → Stand
tells s k said = says s (Record.Said k said)

-- ---- logs
abbrev pub entries_due : ℕ → List Entry → List Due
entries_due k log = map (λ entry. Frees k entry) log

-- the entries of thread k's log are due, and then these; its log has these from then on
abbrev pub flushing : Stand → ℕ → List Entry → List Due → Stand
flushing s k log more = record s { due = entries_due k (s.logs k) ++ more; logs = with_at s.logs k log }

-- Thread k frees so: the entry is logged at the end, and a full log of 64 is flushed first. Then these are due.
abbrev pub logging : Bool → Stand → ℕ → Entry → List Due → Stand
logging true s k entry more = flushing s k (entry ∷ []) more
logging false s k entry more = record s { due = more; logs = with_at s.logs k (s.logs k ++ entry ∷ []) }

abbrev pub is_full : Stand → ℕ → Bool
is_full s k = nat_le 64 (length (s.logs k))

abbrev pub is_page : Profile → ℕ → Bool
is_page f page = nat_le 1 page && nat_le page f.pages

abbrev pub is_aligned : Name → Bool
is_aligned name = address_of name % 16 == 0

-- a name whose page isn't one of the region, or else whose address is no multiple of 16, isn't logged: this is said
abbrev pub freeing_at : Bool → Bool → Stand → ℕ → Entry → Stand
freeing_at false aligned s k entry = tells s k (Said.Outside entry.name)
freeing_at true false s k entry = tells s k (Said.Unaligned entry.name)
freeing_at true true s k entry = logging (is_full s k) s k entry []

abbrev pub freeing : Profile → Stand → ℕ → Entry → Stand
freeing f s k entry = freeing_at (is_page f (address_of entry.name / 4096)) (is_aligned entry.name) s k entry

-- A free of what a name of the trace stands for, which names this room, or none where it is 0. A name whose request was refused is skipped.
abbrev pub freeing_named : Profile → Stand → ℕ → ℕ → ℕ → Option (Option Block) → Stand
freeing_named f s k name room None = s
freeing_named f s k name room (Some None) = tells s k (Said.Skipped name)
freeing_named f s k name room (Some (Some block)) = freeing f s k (sized_entry block.name room)

-- ---- another size for a block
-- A block that suits is kept, which is said, and the new name stands for it too. For another one a request is made, which replaces it.
abbrev pub remaking : Bool → Stand → ℕ → Request → Block → Stand
remaking true s k r old = tells (with_name s r.name (Some old)) k (Said.Kept old.name r.name)
remaking false s k r old = with_due s (Serves k r (Some old.name) ∷ [])

-- What a name of the trace stands for gets another size, under a new name. A name whose request was refused is skipped, and the new name counts as refused.
abbrev pub remaking_named : Stand → ℕ → ℕ → ℕ → ℕ → Option (Option Block) → Stand
remaking_named s k name size align None = s
remaking_named s k name size align (Some None) = tells (with_name s name None) k (Said.Skipped name)
remaking_named s k name size align (Some (Some old)) = remaking (suits old size align) s k (request_for old name size align) old

-- the name that a request replaces, if there is one, is logged once the request is served. Then these are due
abbrev pub replacing : Option Name → Stand → ℕ → List Due → Stand
replacing None s k more = with_due s more
replacing (Some old) s k more = logging (is_full s k) s k (entry_of old) more

-- ---- guards
-- A guard goes down where its keeper sweeps, if more blocks ended at the address of its block than the block's turn says, or all are to go.
abbrev pub goes_down : List Event → ℕ → Bool → Raised → Bool
goes_down es keeper all raised = (raised.keeper == keeper) && (all || nat_lt raised.guard.block.name.turn (ends_in es (address_of raised.guard.block.name)))

abbrev pub lowered_record : Raised → Record
lowered_record raised = Record.Said raised.keeper (Said.Lowered raised.guard.low raised.guard.high)

abbrev pub lowered_due : Raised → Due
lowered_due raised = Writes (lowered_record raised)

-- the keeper sweeps: of each guard that goes down a line is due, in the order in which they went up, and then these. The others stay up
abbrev pub sweeping : Stand → ℕ → Bool → List Due → Stand
sweeping s keeper all more = record s {
  guards = filter (λ guard. not (goes_down s.events keeper all guard)) s.guards;
  due = map lowered_due (filter (goes_down s.events keeper all) s.guards) ++ more;
}

-- the pages below and above a block
abbrev pub page_below : Block → ℕ
page_below block = grain_of block.name / 256 - 1

abbrev pub page_above : Block → ℕ
page_above block = (grain_of block.name + length_of block - 1) / 256 + 1

abbrev pub guard_of : Block → Guard
guard_of block = record { low = page_below block; high = page_above block; block = block }

abbrev pub has_sides : Profile → Block → Bool
has_sides f block = is_page f (page_below block) && is_page f (page_above block)

-- The keeper gave the block for the name: its guard is up, and the line of it is due, and then these. Where there is no page below it or above it, no line can come.
abbrev pub raising : Bool → Stand → ℕ → ℕ → Block → List Due → Stand
raising true s keeper name block more = record s {
  guards = s.guards ++ raised_by keeper (guard_of block) ∷ [];
  due = Writes (Record.Said keeper (Said.Guarded (page_below block) (page_above block) name)) ∷ more;
}
raising false s keeper name block more = with_due s (Never ∷ more)

-- the request of thread k is tried by the keeper, after a sweep
abbrev pub guarding : Stand → ℕ → ℕ → Option Request → Stand
guarding s keeper k None = s
guarding s keeper k (Some r) = sweeping s keeper false (Tries keeper k r false ∷ [])

-- ---- acts
abbrev pub begun_what : Profile → Stand → ℕ → What → Stand
begun_what f s k (Alloc name heap size align) = with_due s (Serves k record { name = name; heap = heap; size = size; align = align } None ∷ [])
begun_what f s k (Guarded keeper name heap size align) = with_due s (Serves k record { name = name; heap = heap; size = size; align = align } None ∷ [])
begun_what f s k (Free name) = freeing_named f s k name 0 (standing_for s.names name)
begun_what f s k (FreeSized name room) = freeing_named f s k name room (standing_for s.names name)
begun_what f s k (Raw block) = freeing f s k (entry_of block)
begun_what f s k (RawSized room block) = freeing f s k (sized_entry block room)
begun_what f s k (Remake name old heap size align) = remaking_named s k name size align (standing_for s.names old)
begun_what f s k Flush = flushing s k [] []
begun_what f s k Stop = flushing s k [] []
begun_what f s k (Tick e) = s
begun_what f s k Pass = s
begun_what f s k (Idle n) = s

-- an idle thread's cache is stopped where its thread read the epoch at least so long ago, which is said after its flush
abbrev pub stopping : Bool → Stand → ℕ → Stand
stopping true s k = flushing s k [] (Writes (Record.Said 0 (Said.Stopped k)) ∷ [])
stopping false s k = s

abbrev pub begun_act : Profile → Stand → Act → Stand
begun_act f s (Operates op) = begun_what f s op.actor op.what
begun_act f s (Guards keeper op) = guarding s keeper op.actor (request_in op.what)
begun_act f s (Settles k) = s
begun_act f s (Ticks e) = tells (record s { epoch = max s.epoch e }) 0 (Said.Tick (max s.epoch e))
begun_act f s MakesPass = with_due s (Writes (Record.Said 0 (Said.Pass s.epoch)) ∷ Examines 0 ∷ [])
begun_act f s ReadsEpoch = s
begun_act f s (StopsIdle k n) = stopping (nat_le (s.idle_since k + n) s.epoch) s k
begun_act f s (MarksPhase n) = says s (Record.Phase n)
begun_act f s (Wakes k) = record s { idle_since = with_at s.idle_since k s.epoch }
begun_act f s MarksClose = says s Record.Close
begun_act f s (Ends k) = flushing s k [] []
begun_act f s (Lowers keeper) = sweeping s keeper true []

-- ---- the report
abbrev pub page_due : ℕ → Option Directory → List Due
page_due page None = []
page_due page (Some d) = Shows page d ∷ []

-- the pages 1 to n with a deed, in order
abbrev pub pages_due : List Event → ℕ → List Due
pages_due es zero = []
pages_due es (suc n) = pages_due es n ++ page_due (suc n) (deed_in es (suc n))

abbrev pub report_due : Profile → List Event → List Due
report_due f es = Heads ∷ (pages_due es f.pages ++ Totals ∷ [])

abbrev pub begun : Profile → Stand → Task → Stand
begun f s (Does act) = begun_act f s act
begun f s Reports = with_due s (report_due f s.events)

-- ---- what is due next
-- where nothing is due, tasks are begun in order, up to the first after which something is
abbrev pub settled_with : List Due → Stand → Stand → Stand
settled_with [] due none = none
settled_with (d ∷ ds) due none = due

-- .. after a task, these are left
abbrev pub after_task : Profile → Stand → Task → List Task → Stand
after_task f s t ts = record (begun f s t) { left = ts }

abbrev pub begun_from : Profile → Stand → List Task → Stand
begun_from f s [] = record s { left = [] }
begun_from f s (t ∷ ts) = settled_with (after_task f s t ts).due (after_task f s t ts) (begun_from f (after_task f s t ts) ts)

abbrev pub ready_with : Profile → Stand → List Due → Stand
ready_with f s [] = begun_from f (with_due s []) s.left
ready_with f s (d ∷ ds) = with_due s (d ∷ ds)

-- no more outcomes of a pass come
abbrev pub past_outcomes : List Due → List Due
past_outcomes [] = []
past_outcomes (Writes item ∷ more) = Writes item ∷ more
past_outcomes (Frees k entry ∷ more) = Frees k entry ∷ more
past_outcomes (Serves k r old ∷ more) = Serves k r old ∷ more
past_outcomes (Tries keeper k r backed ∷ more) = Tries keeper k r backed ∷ more
past_outcomes (Never ∷ more) = Never ∷ more
past_outcomes (Examines page ∷ more) = more
past_outcomes (Heads ∷ more) = Heads ∷ more
past_outcomes (Shows page d ∷ more) = Shows page d ∷ more
past_outcomes (Totals ∷ more) = Totals ∷ more

-- what the next line must answer, where it is no outcome of a pass
abbrev pub ready : Profile → Stand → Stand
ready f s = ready_with f s (past_outcomes s.due)
