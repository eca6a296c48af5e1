-- What a generated trace means.
use Rattle.std.specs.Prelude.{ℕ, zero, suc, ◌+◌, ◌/◌, ◌%◌, nat_eq, if◌then◌else◌, List, [], ◌∷◌}
use Rattle.pas_profile.specs.declared.profile.Profile.{Profile}
use Rattle.pas_trace.specs.declared.{header.Header.Header, item.{Item.{Item, TheVariants.{Shares, NextPhase, Operates, Scavenges}}, Wish.TheVariants.Asks}}
use Rattle.pas_trace.specs.{declared.{item.Wish.TheVariants.Frees, plan.Chore.Chore}, Plans.Parsed}
use Rattle.pas_generate.specs.{Requests.request_from, Traces.state_after, Operations.{State, allocates, begun, thread_of, freed, freeing_thread}}

-- the region: six heaps, none of them shared as yet, and an age of 2
abbrev pub region : ℕ → ℕ → Profile
region pages threads = record { pages = pages; threads = threads; age = 2; heaps = 6; shared = 0; classes = 16 }

-- the header: of version 1
abbrev pub heading : ℕ → ℕ → Header
heading pages threads = record { version = 1; profile = region pages threads }

-- ---- the items after an operation, the newest first
-- an allocation by a thread, by its state
abbrev pub with_allocation : ℕ → State → List Item → List Item
with_allocation thread s earlier =
    Operates thread (Asks s.next_name (request_from s.x).heap (request_from s.x).size (request_from s.x).align) ∷ earlier

-- a free
abbrev pub with_free : ℕ → State → List Item → List Item
with_free thread s earlier = Operates (freeing_thread thread s) (Frees (freed s).name) ∷ earlier

-- either of the two
unfoldable pub with_drawn : ℕ → State → List Item → List Item
with_drawn threads s earlier = if allocates s then with_allocation (thread_of threads s) (begun s) earlier else with_free (thread_of threads s) (begun s) earlier

-- the operation of this number: every thousandth is a pass, after which a phase begins, and the one before it a tick
unfoldable pub with_operation : ℕ → ℕ → State → List Item → List Item
with_operation threads number s earlier =
    if nat_eq (number % 1000) 999 then Scavenges (Chore.Tick (number / 1000 + 1)) ∷ earlier else (if nat_eq (number % 1000) 0 then NextPhase ∷ Scavenges Chore.Pass ∷ earlier else with_drawn threads s earlier)

-- the items of so many operations, after the line that shares the last heap
unfoldable pub items_after : ℕ → ℕ → ℕ → List Item
items_after threads seed zero = Shares 5 ∷ []
items_after threads seed (suc n) = with_operation threads (suc n) (state_after threads seed n) (items_after threads seed n)

-- the header and the items of the whole text
abbrev pub meant : ℕ → ℕ → ℕ → ℕ → Parsed
meant seed ops threads pages = record { header = heading pages threads; items = items_after threads seed ops }
