-- The plan of a text, or its first fault.
use Rattle.std.specs.Prelude.{ℕ, zero, suc, ◌+◌, ◌-◌, ◌^◌, ◌<◌, ◌≡◌, ◌==◌, ◌&&◌, nat_le, true, if◌then◌else◌, bit_or, List, [], ◌∷◌, ◌++◌, map, Option, None}
use Rattle.std.specs.Prelude.{Some, Result, Ok, Err}
use Rattle.pas_profile.specs.{Requests.room_in, declared.{profile.Profile.Profile, name.Name.Name}}
use Rattle.pas_trace.specs.declared.{header.Header.Header, item.{Item.{Item, TheVariants.{Blank, Shares, Guards, NextPhase, Operates, Scavenges}}, Wish.Wish}}
use Rattle.pas_trace.specs.declared.{item.Wish.TheVariants.{Asks, Frees, FreesSized, FreesRaw, FreesRawSized, Remakes, Flushes, Stops}, plan.Chore.Chore}
use Rattle.pas_trace.specs.declared.plan.What.{What, TheVariants.{Alloc, Guarded, Free, FreeSized, Raw, RawSized, Remake, Flush, Stop, Tick, Pass, Idle}}
use Rattle.pas_trace.specs.declared.{plan.{Op.Op, Phase.Phase, Phases.Phases, Bounds.Bounds, Plan.Plan}, fault.{Reason.Reason, TraceFault.TraceFault}}
use Rattle.pas_trace.specs.{declared.fault.ReadFault.{ReadFault, TheVariants.{Trace, NoMemory}}, Texts.lines_of, Reasons.{header_of, line_says, is_named}}
use Rattle.pas_trace.specs.Reasons.{heap_of, actor_of, guard_in, is_guarded, actors_by, cost_of, record_bound}

-- ---- the text, line by line: the items in order, or the fault of the lowest faulty line. `earlier` has the items before, the newest first
abbrev pub fault_at : ℕ → Reason → TraceFault
fault_at line reason = record { line = line; reason = reason }

-- the fault, or what follows from the item
abbrev pub after_item : ℕ → Result Item Reason → (Item → Result (List Item) TraceFault) → Result (List Item) TraceFault
after_item number (Err r) more = Err (fault_at number r)
after_item number (Ok i) more = more i

abbrev pub items_from : Header → ℕ → List Item → List (List ℕ) → Result (List Item) TraceFault
items_from h number earlier [] = Ok earlier
items_from h number earlier (line ∷ lines) = after_item number (line_says h earlier line) (λ i. items_from h (number + 1) (i ∷ earlier) lines)

-- the header of a text and its items from line 2 on, the newest first; or its first fault
pub record Parsed : Type 0 where
  pub header : Header
  pub items : List Item

abbrev pub with_items : Header → Result (List Item) TraceFault → Result Parsed TraceFault
with_items h (Err fault) = Err fault
with_items h (Ok items) = Ok record { header = h; items = items }

abbrev pub with_header : Option Header → List (List ℕ) → Result Parsed TraceFault
with_header None lines = Err (fault_at 1 Reason.BadHeader)
with_header (Some h) lines = with_items h (items_from h 2 [] lines)

abbrev pub parsed_lines : List (List ℕ) → Result Parsed TraceFault
parsed_lines [] = Err (fault_at 1 Reason.BadHeader)
parsed_lines (line ∷ lines) = with_header (header_of line) lines

abbrev pub parsed : List ℕ → Result Parsed TraceFault
parsed text = parsed_lines (lines_of text)

-- ---- the plan of items
-- the marks of shared heaps
abbrev pub shared_by : Item → ℕ → ℕ
shared_by Blank marks = marks
shared_by (Shares h) marks = bit_or marks (2 ^ h)
shared_by (Guards n) marks = marks
shared_by NextPhase marks = marks
shared_by (Operates t w) marks = marks
shared_by (Scavenges c) marks = marks

abbrev pub shared_in : List Item → ℕ
shared_in [] = 0
shared_in (i ∷ earlier) = shared_by i (shared_in earlier)

abbrev pub name_at : ℕ → ℕ → Name
name_at address turn = record { address = record { 0 = address }; turn = turn }

abbrev pub operation : ℕ → ℕ → What → Op
operation line actor what = record { line = line; actor = actor; what = what }

-- the keeper of a guarded request: the actor behind all threads that has its thread's place among the keepers
abbrev pub keeper_for : Profile → List Item → Item → Option ℕ
keeper_for f earlier i = if is_guarded earlier i then Some (f.threads + actor_of i) else None

-- what a wish and a chore are in a plan, where earlier names have these heaps, and this keeper keeps the guard of a request, if it is guarded. A free that names a size
-- and an alignment names the room that a request for them gets in the region
abbrev pub request_kept : Option ℕ → ℕ → ℕ → ℕ → ℕ → What
request_kept None n h s a = Alloc n h s a
request_kept (Some keeper) n h s a = Guarded keeper n h s a

abbrev pub what_wished : Profile → (ℕ → ℕ) → Option ℕ → Wish → What
what_wished f heaps keeper (Asks n h s a) = request_kept keeper n h s a
what_wished f heaps keeper (Frees n) = Free n
what_wished f heaps keeper (FreesSized n s a) = FreeSized n (room_in f s a)
what_wished f heaps keeper (FreesRaw b n) = Raw (name_at b n)
what_wished f heaps keeper (FreesRawSized b n s a) = RawSized (room_in f s a) (name_at b n)
what_wished f heaps keeper (Remakes n o s a) = Remake n o (heaps o) s a
what_wished f heaps keeper Flushes = Flush
what_wished f heaps keeper Stops = Stop

abbrev pub what_of_chore : Chore → What
what_of_chore (Chore.Tick epoch) = Tick epoch
what_of_chore Chore.Pass = Pass
what_of_chore (Chore.Idle n) = Idle n

-- an item's operation, where it is one
abbrev pub operation_of : Profile → (ℕ → ℕ) → Option ℕ → ℕ → Item → Option Op
operation_of f heaps keeper line Blank = None
operation_of f heaps keeper line (Shares h) = None
operation_of f heaps keeper line (Guards n) = None
operation_of f heaps keeper line NextPhase = None
operation_of f heaps keeper line (Operates t w) = Some (operation line t (what_wished f heaps keeper w))
operation_of f heaps keeper line (Scavenges c) = Some (operation line 0 (what_of_chore c))

-- the phases so far, with their operations in order, from the items (newest first): a `phase` line begins an empty one, and an operation goes
-- to the end of the last one
abbrev pub add_last : Option Op → List (List Op) → List (List Op)
add_last None phases = phases
add_last (Some op) [] = (op ∷ []) ∷ []
add_last (Some op) (p ∷ []) = (p ++ op ∷ []) ∷ []
add_last (Some op) (p ∷ q ∷ phases) = p ∷ add_last (Some op) (q ∷ phases)

-- the line of the newest of some items, the first of which stood on line 2
abbrev pub line_of_newest : List Item → ℕ
line_of_newest [] = 1
line_of_newest (i ∷ earlier) = line_of_newest earlier + 1

abbrev pub phases_after : Profile → (ℕ → ℕ) → Option ℕ → Item → ℕ → List (List Op) → List (List Op)
phases_after f heaps keeper Blank line phases = phases
phases_after f heaps keeper (Shares h) line phases = phases
phases_after f heaps keeper (Guards n) line phases = phases
phases_after f heaps keeper NextPhase line phases = phases ++ [] ∷ []
phases_after f heaps keeper (Operates t w) line phases = add_last (operation_of f heaps keeper line (Operates t w)) phases
phases_after f heaps keeper (Scavenges c) line phases = add_last (operation_of f heaps keeper line (Scavenges c)) phases

abbrev pub phases_in : Profile → List Item → List (List Op)
phases_in f [] = [] ∷ []
phases_in f (i ∷ earlier) = phases_after f (heap_of earlier) (keeper_for f earlier i) i (line_of_newest (i ∷ earlier)) (phases_in f earlier)

-- the costs of an actor's own operations
abbrev pub own_costs : Profile → ℕ → List Item → ℕ
own_costs f k [] = 0
own_costs f k (i ∷ earlier) = if actor_of i == k then own_costs f k earlier + cost_of f (guard_in earlier) i else own_costs f k earlier

-- what the keeper of thread k may make for its guarded requests: for each one, and one for each page, as without a guard
abbrev pub kept_costs : Profile → ℕ → List Item → ℕ
kept_costs f k [] = 0
kept_costs f k (i ∷ earlier) = if is_guarded earlier i && (actor_of i == k) then kept_costs f k earlier + cost_of f 0 i else kept_costs f k earlier

-- an actor's bound: for a thread a deed for each page and its costs, for the scavenger its costs; for a keeper a deed for each page, and what it may make for the
-- guarded requests of its thread
abbrev pub bound_of : Profile → List Item → ℕ → ℕ
bound_of f items k = if k == 0 then own_costs f 0 items else (if nat_le k f.threads then f.pages + own_costs f k items else f.pages + kept_costs f (k - f.threads) items)

-- the bounds of the actors below n, in order
abbrev pub bounds_upto : Profile → List Item → ℕ → List ℕ
bounds_upto f items zero = []
bounds_upto f items (suc n) = bounds_upto f items n ++ bound_of f items n ∷ []

-- .. of the scavenger and all actors
abbrev pub all_bounds : Profile → List Item → List ℕ
all_bounds f items = bounds_upto f items (actors_by (guard_in items) f.threads + 1)

-- the operations of a phase as a list
abbrev pub ops_of : Phase → List Op
ops_of phase = phase.ops.items

-- the phases and the bounds as lists
abbrev pub phases_of : Phases → List Phase
phases_of phases = phases.phases.items

abbrev pub bounds_of : Bounds → List ℕ
bounds_of bounds = bounds.bounds.items

-- each name that the items make is below the limit
abbrev pub AreNamedBelow : ℕ → List Item → Type 0
AreNamedBelow limit items = (name : ℕ) → is_named items name ≡ true → name < limit

-- The plan is that of the text: its version, its region, the number of its `guard` line, its phases, its bounds and its total, and a limit above its names.
pub record IsPlanOf (text : List ℕ) (plan : Plan) : Type 0 where
  pub items : List Item
  pub header : Header
  pub read : parsed text ≡ Ok (record { header = header; items = items })
  pub version : plan.version ≡ header.version
  pub profile : plan.profile ≡ record header.profile { shared = shared_in items }
  pub guard : plan.guard ≡ guard_in items
  pub phases : map ops_of (phases_of plan.phases) ≡ phases_in header.profile items
  pub bounds : bounds_of plan.bounds ≡ all_bounds header.profile items
  pub total : plan.total ≡ record_bound header.profile items
  pub names : AreNamedBelow plan.names_limit items

-- The answer of the reader: the plan of the text, or its first fault. Nothing is said where memory ran out.
abbrev pub IsReading : List ℕ → Result Plan ReadFault → Type 0
IsReading text (Ok plan) = IsPlanOf text plan
IsReading text (Err (Trace fault)) = parsed text ≡ Err fault
IsReading text (Err NoMemory) = Unit {0}
