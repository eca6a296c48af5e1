-- THE WHOLE: what `pas order` prints for the bytes of a trace.
use Rattle.std.specs.Prelude.{ℕ, ◌/◌, ◌==◌, if◌then◌else◌, List, [], map, Option, None, Some, Result, Ok, Err}
use Rattle.pas_profile.specs.{declared.{name.Block.Block, directory.Route.Route, profile.Profile.Profile}, Requests.{route_in, room_in}, Entries.entry_of}
use Rattle.pas_profile.specs.Entries.{sized_entry}
use Rattle.pas_trace.specs.{declared.{fault.TraceFault.TraceFault, plan.{Op.Op, What.What}}, Asked.request_in, Reasons.guard_in, Acts.{Act, numbers_from}}
use Rattle.pas_trace.specs.{Acts.acts_of, Plans.{Parsed, parsed, phases_in, shared_in}}
use Rattle.pas_answers.specs.Answers.{standing_for, suits}
use Rattle.pas_same_text.specs.{State.{World, each, no_cache, cache_of, set_cache, says, names_it}, Indexes.settles, Classes.serves_class, Runs.serves_bitfit}
use Rattle.pas_same_text.specs.{Runs.serves_pages, Guards.{guards, lowers_all}, Reports.text_of, Frees.{flushes, stops, logs, frees, frees_named}, Passes.ticks}
use Rattle.pas_same_text.specs.Passes.{passes, reads_epoch, stops_idle}
use Rattle.pas_records.specs.declared.record.{Record.Record, Said.Said}

-- ---- the operations of thread k; those of the scavenger are acts of their own
-- a request, by the route of its size and alignment
abbrev pub serves : Profile → ℕ → ℕ → ℕ → Route → ℕ → ℕ → World → World
serves f k name heap (Route.Class class) room align w = serves_class f k name heap class w
serves f k name heap Route.Bitfit room align w = serves_bitfit f k name heap room align w
serves f k name heap Route.Large room align w = serves_pages f k name heap (room / 4096) w

-- ---- another size for a block
-- it suits as it is: it is kept, and the new name stands for it as the old one does
abbrev pub keeps_block : ℕ → ℕ → Block → World → World
keeps_block k name old w = names_it name (Some old) (says (Record.Said k (Said.Kept old.name name)) w)

-- the old name is logged, without a room, where the new one stands for a block
abbrev pub logs_replaced : Profile → ℕ → Block → Option (Option Block) → World → World
logs_replaced f k old (Some (Some block)) w = logs f k (entry_of old.name) w
logs_replaced f k old (Some None) w = w
logs_replaced f k old None w = w

abbrev pub logs_if_served : Profile → ℕ → ℕ → Block → World → World
logs_if_served f k name old w = logs_replaced f k old (standing_for w.names name) w

-- it doesn't: another block of its heap is asked for, and where there is one the old name is logged
abbrev pub replaces : Profile → ℕ → ℕ → Block → ℕ → ℕ → World → World
replaces f k name old size align w = logs_if_served f k name old (serves f k name old.heap (route_in f size align) (room_in f size align) align w)

-- A REALLOCATION of what a name of the trace stands for: of a block, or of nothing where its request was refused, as the new name counts as refused then. A trace
-- has no name that was never asked for
abbrev pub remakes : Profile → ℕ → ℕ → ℕ → ℕ → Option (Option Block) → World → World
remakes f k name size align (Some (Some old)) w = if suits old size align then keeps_block k name old w else replaces f k name old size align w
remakes f k name size align (Some None) w = names_it name None (says (Record.Said k (Said.Skipped name)) w)
remakes f k name size align None w = w

-- AN OPERATION. A guarded request is an act of its own
abbrev pub operates : Profile → ℕ → What → World → World
operates f k (What.Alloc name heap size align) w = serves f k name heap (route_in f size align) (room_in f size align) align w
operates f k (What.Guarded keeper name heap size align) w = serves f k name heap (route_in f size align) (room_in f size align) align w
operates f k (What.Free name) w = frees_named f k name 0 w
operates f k (What.FreeSized name room) w = frees_named f k name room w
operates f k (What.Raw block) w = frees f k (entry_of block) w
operates f k (What.RawSized room block) w = frees f k (sized_entry block room) w
operates f k (What.Remake name old heap size align) w = remakes f k name size align (standing_for w.names old) w
operates f k What.Flush w = flushes f k w
operates f k What.Stop w = stops f k w
operates f k (What.Tick e) w = w
operates f k What.Pass w = w
operates f k (What.Idle n) w = w

-- ---- the acts of a replay
-- a thread begins a phase
abbrev pub begins : ℕ → World → World
begins k w = set_cache k (record (cache_of w k) { idle_since = w.epoch }) w

-- AN ACT
abbrev pub acts_on : Profile → Act → World → World
acts_on f (Act.MarksPhase n) w = says (Record.Phase n) w
acts_on f (Act.Wakes k) w = begins k w
acts_on f (Act.Operates op) w = operates f op.actor op.what w
acts_on f (Act.Guards keeper op) w = guards f keeper op.actor (request_in op.what) w
acts_on f (Act.Settles k) w = settles k w
acts_on f (Act.Ticks e) w = ticks e w
acts_on f Act.MakesPass w = passes f w
acts_on f Act.ReadsEpoch w = reads_epoch w
acts_on f (Act.StopsIdle k n) w = stops_idle f k n w
acts_on f Act.MarksClose w = says Record.Close w
acts_on f (Act.Ends k) w = stops f k w
acts_on f (Act.Lowers keeper) w = lowers_all keeper w

-- ---- the replay of phases, from nothing
-- no event yet, empty caches of so many threads and indexes of so many heaps, no guard, epoch 0
abbrev pub opened : ℕ → ℕ → World
opened threads heaps = record {
  events = [];
  records = [];
  live = [];
  names = [];
  caches = map (λ k. no_cache) (numbers_from 1 threads);
  guards = [];
  hinted = [];
  indexes = map (λ h. []) (numbers_from 1 heaps);
  epoch = 0;
  read = 0;
}

-- THE REPLAY: the acts of the phases, one by one, with so many keepers
abbrev pub replayed : Profile → ℕ → List (List Op) → World
replayed f keepers phases = each (acts_on f) (acts_of f.threads keepers phases) (opened f.threads f.heaps)

-- ---- the text
-- the region of a trace: its header with its shared heaps
abbrev pub region_of : Parsed → Profile
region_of p = record p.header.profile { shared = shared_in p.items }

-- the number of its keepers: one a thread, where it has a `guard` line
abbrev pub keepers_of : Parsed → ℕ
keepers_of p = if guard_in p.items == 0 then 0 else p.header.profile.threads

-- what its replay comes to
abbrev pub replay_of : Parsed → World
replay_of p = replayed (region_of p) (keepers_of p) (phases_in p.header.profile p.items)

abbrev pub text_for : Result Parsed TraceFault → Option (List ℕ)
text_for (Ok p) = Some (text_of (region_of p) (replay_of p))
text_for (Err fault) = None

-- THE TEXT that `pas order` writes where these bytes are a trace; a text with a fault has none
abbrev pub order_text : List ℕ → Option (List ℕ)
order_text bytes = text_for (parsed bytes)
