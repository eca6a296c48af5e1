-- WHAT A REPLAY HAS COME TO between two of its acts. No words of the region, no rights, views or steps stand in it: what pages and grains are follows from
-- the events, the caches and the hints.
use Rattle.std.specs.{Prelude.{ℕ, ◌-◌, ◌==◌, not, Bool, if◌then◌else◌, List, [], ◌∷◌, Option}, List.{find, filter}}
use Rattle.pas_profile.specs.{Blocks.address_of, declared.{event.Event.Event, name.Block.Block, entry.Entry.Entry, guard.Raised.Raised}}
use Rattle.pas_large.specs.declared.span.Span.{Span}
use Rattle.pas_free_log.specs.declared.noting.EndedRun.{EndedRun}
use Rattle.pas_answers.specs.Answers.{Named, named}
use Rattle.pas_records.specs.declared.record.Record.{Record}

-- A LOCAL ALLOCATOR: the slots of a class that a thread took of a page and didn't give yet, by their first grains on the page, the lowest first. In a heap
-- that isn't shared it keeps its page: nobody else takes slots of it as long as it stays.
pub record Local : Type 0 where
  pub page : ℕ
  pub heap : ℕ
  pub class : ℕ
  pub slots : List ℕ
  pub keeps : Bool

-- THE CACHE of a thread: its local allocators, at most one of a heap and class, the one used longest ago first; its frees that took no effect yet, the
-- oldest first, each the name of a block, with a room where the free named one; the pages of large blocks that it ended and didn't hand on yet, in order;
-- and the epoch in which it last began a phase with an operation of its own
pub record Cache : Type 0 where
  pub locals : List Local
  pub log : List Entry
  pub noted : List EndedRun
  pub idle_since : ℕ

-- THE STATE: the events and the records so far, each with the newest first; the live blocks, which follow from the events; what the names of the trace stand
-- for; the caches of the threads from 1 on; the guards that are up, in the order in which they went up; the pages that are hinted as empty; the indexes of the
-- heaps from 0 on, each some ranges of pages, the lowest first; the epoch; and the one that the scavenger read for its last idle operation
pub record World : Type 0 where
  pub events : List Event
  pub records : List Record
  pub live : List Block
  pub names : List Named
  pub caches : List Cache
  pub guards : List Raised
  pub hinted : List ℕ
  pub indexes : List (List Span)
  pub epoch : ℕ
  pub read : ℕ

-- the same done for each of some things, in order
abbrev pub each : {A : Type 0} → (A → World → World) → List A → World → World
each does [] w = w
each does (x ∷ xs) w = each does xs (does x w)

-- ---- live blocks: one more from its give to its end
-- the block begins at the address
abbrev pub is_at : ℕ → Block → Bool
is_at address b = address_of b.name == address

-- the blocks that live after an event, the one given last first
abbrev pub live_after : Event → List Block → List Block
live_after (Event.Deed k p d) live = live
live_after (Event.Back k p) live = live
live_after (Event.Unback k p e) live = live
live_after (Event.Give k block) live = block ∷ live
live_after (Event.End k name e) live = filter (λ b. not (is_at (address_of name) b)) live
live_after (Event.Reject k name why) live = live

-- the block that lives at the address
abbrev pub block_at : World → ℕ → Option Block
block_at w address = find (is_at address) w.live

-- ---- records
-- an event comes, and is shown by its line
abbrev pub shows : Event → World → World
shows e w = record w { events = e ∷ w.events; records = Record.Event e ∷ w.records; live = live_after e w.live }

-- a line comes that is no event
abbrev pub says : Record → World → World
says r w = record w { records = r ∷ w.records }

-- the name stands for this block from now on, or for nothing
abbrev pub names_it : ℕ → Option Block → World → World
names_it name block w = record w { names = named name block ∷ w.names }

-- ---- caches
-- that of a thread which did nothing yet
abbrev pub no_cache : Cache
no_cache = record { locals = []; log = []; noted = []; idle_since = 0 }

-- the k-th of some caches, from 1 on; and it has become another
abbrev pub cache_in : List Cache → ℕ → Cache
cache_in [] k = no_cache
cache_in (c ∷ cs) k = if k == 1 then c else cache_in cs (k - 1)

abbrev pub with_cache : List Cache → ℕ → Cache → List Cache
with_cache [] k new = []
with_cache (c ∷ cs) k new = if k == 1 then new ∷ cs else c ∷ with_cache cs (k - 1) new

-- that of thread k, and its parts
abbrev pub cache_of : World → ℕ → Cache
cache_of w k = cache_in w.caches k

abbrev pub locals_of : World → ℕ → List Local
locals_of w k = (cache_of w k).locals

abbrev pub log_of : World → ℕ → List Entry
log_of w k = (cache_of w k).log

abbrev pub noted_of : World → ℕ → List EndedRun
noted_of w k = (cache_of w k).noted

-- it has become this
abbrev pub set_cache : ℕ → Cache → World → World
set_cache k c w = record w { caches = with_cache w.caches k c }

abbrev pub set_locals : ℕ → List Local → World → World
set_locals k locals w = set_cache k (record (cache_of w k) { locals = locals }) w

abbrev pub set_log : ℕ → List Entry → World → World
set_log k log w = set_cache k (record (cache_of w k) { log = log }) w

abbrev pub set_noted : ℕ → List EndedRun → World → World
set_noted k noted w = set_cache k (record (cache_of w k) { noted = noted }) w
