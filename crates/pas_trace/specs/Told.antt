-- What the reader keeps of the lines that it has read.
use Rattle.std.specs.Prelude.{if◌then◌else◌, ℕ, ◌+◌, ◌*◌, ◌==◌, ◌≡◌, ◌≤◌, ◌<◌, nat_lt, nat_le, Bool, true, not, ◌&&◌, ◌||◌, List, [], ◌∷◌, ◌++◌, map, length}
use Rattle.std.specs.Prelude.{Option, None, Some, Result, Ok, Err, slice_index, slice_index_or, slice_set}
use Rattle.pas_profile.specs.{Profiles.IsValid, declared.profile.Profile.Profile}
use Rattle.pas_trace.specs.declared.{header.Header.Header, fault.{Reason.Reason, ReadFault.{ReadFault, TheVariants.{Trace, NoMemory}}}, item.Item.Item}
use Rattle.pas_trace.specs.declared.{item.{Item.TheVariants.{Blank, Shares, Guards, NextPhase, Operates, Scavenges}, Wish.Wish}, reader.Reader.Reader}
use Rattle.pas_trace.specs.declared.{plan.{What.What, Plan.Plan}, counts.Counts.Counts, names.{Owner.Owner, Names.Names}, outline.Outline.Outline}
use Rattle.pas_trace.specs.{declared.{samples.Samples.Samples, script.Script.Script}, Gathering.{HasGathered, Gathers, is_scripting}, Scripts.coded_ops}
use Rattle.pas_trace.specs.{Scripts.{coded_phases, without_lines}, Texts.lines_of, Wishes.{name_made, heap_made, asks_pages, is_name}, Reasons.header_of}
use Rattle.pas_trace.specs.Reasons.{first_failed, is_thread, is_alignment, few_enough, own_checks, guard_checks, guard_with, guard_in, large_requests}
use Rattle.pas_trace.specs.Reasons.{is_sampled, cost_of_wish, records_of_chore, started, operations_in, is_named, is_named_now, thread_of, heap_of}
use Rattle.pas_trace.specs.{Reasons.{record_bound, line_says, reason_of}, Plans.{ops_of, phases_of, bounds_of, phases_in, shared_in, line_of_newest, own_costs}}
use Rattle.pas_trace.specs.Plans.{kept_costs, all_bounds, AreNamedBelow, add_last, operation, what_wished, fault_at, items_from}

-- what a plan and a script have beside their phases
abbrev pub outline_of : Plan → Outline
outline_of plan = record { version = plan.version; profile = plan.profile; guard = plan.guard; bounds = plan.bounds; total = plan.total; names_limit = plan.names_limit }

abbrev pub outline_in : Script → Outline
outline_in script = record { version = script.version; profile = script.profile; guard = script.guard; bounds = script.bounds; total = script.total; names_limit = script.names_limit }

-- the owner that the names give a name
abbrev pub owner_in : Names → ℕ → Owner
owner_in names name = slice_index_or names.owners.items name record { thread = 0; heap = 0; phase = 0 }

-- the heap of each name
abbrev pub heap_told : Reader → ℕ → ℕ
heap_told r n = (owner_in r.names n).heap

-- ---- the checks, by what the reader keeps
abbrev pub few_told : Reader → ℕ → List (Bool × Reason)
few_told r cost = few_enough r.counts.operations (r.counts.bound + cost)

abbrev pub thread_told : Reader → ℕ → ℕ → List (Bool × Reason)
thread_told r t cost = (is_thread r.header.profile t, Reason.BadThread) ∷ few_told r cost

abbrev pub has_owner : Reader → ℕ → Bool
has_owner r n = not ((owner_in r.names n).thread == 0)

abbrev pub has_owner_now : Reader → ℕ → Bool
has_owner_now r n = has_owner r n && ((owner_in r.names n).phase == r.phase)

abbrev pub may_free_told : Reader → ℕ → ℕ → Bool
may_free_told r t n = (t == (owner_in r.names n).thread) || not (has_owner_now r n)

abbrev pub sizing_told : Reader → ℕ → ℕ → List (Bool × Reason)
sizing_told r size align = (nat_le size (4096 * r.header.profile.pages), Reason.BadSize) ∷ (is_alignment align, Reason.BadAlign) ∷ []

abbrev pub freed_told : Reader → ℕ → ℕ → List (Bool × Reason)
freed_told r t n = (has_owner r n, Reason.NameUnknown) ∷ (may_free_told r t n, Reason.TooEarly) ∷ []

abbrev pub told_checks : Reader → Item → List (Bool × Reason)
told_checks r Blank = []
told_checks r (Shares h) = (nat_lt h r.header.profile.heaps, Reason.BadHeap) ∷ []
told_checks r (Guards n) = guard_checks r.header.profile r.started r.samples.guard n
told_checks r NextPhase = []
told_checks r (Operates t w) = own_checks r.header.profile (has_owner r) (may_free_told r t) t w (few_told r (cost_of_wish r.samples.guard w))
told_checks r (Scavenges c) = few_told r (records_of_chore r.header.profile c)

abbrev pub reason_told : Reader → ℕ → Wish → Option Reason
reason_told r t w = first_failed (told_checks r (Operates t w))

-- the answer of checks of which this is the first that fails: the cost where all hold, or the reason
abbrev pub IsChecked : Option Reason → ℕ → Result ℕ Reason → Type 0
IsChecked failed cost (Ok c) = (failed ≡ None) × (c ≡ cost)
IsChecked failed cost (Err r) = failed ≡ Some r

-- .. and that of some of them, without a cost
abbrev pub AreTested : List (Bool × Reason) → Result (Unit {0}) Reason → Type 0
AreTested checks (Ok done) = first_failed checks ≡ None
AreTested checks (Err r) = first_failed checks ≡ Some r

-- ---- what the reader keeps, told by the items that it has read

-- the owner of a name, after these items
pub record NameTold (owner : Owner) (phase : ℕ) (items : List Item) (n : ℕ) : Type 0 where
  pub named : is_named items n ≡ not (owner.thread == 0)
  pub thread : thread_of items n ≡ owner.thread
  pub heap : heap_of items n ≡ owner.heap
  pub now : is_named_now items n ≡ (not (owner.thread == 0) && (owner.phase == phase))
  pub before : owner.phase ≤ phase

-- which requests are guarded, after these items
pub record TellsSamples (f : Profile) (s : Samples) (items : List Item) : Type 0 where
  pub guard : s.guard ≡ guard_in items
  pub width : length s.larges ≡ 17
  pub larges : (k : ℕ) → k < 17 → slice_index s.larges k ≡ large_requests k items
  pub kept_width : length s.kept ≡ 17
  pub kept : (k : ℕ) → k < 17 → slice_index s.kept k ≡ kept_costs f k items

pub record Tells (r : Reader) (items : List Item) : Type 0 where
  pub header : IsValid r.header.profile
  pub shared : r.shared ≡ shared_in items
  pub started : r.started ≡ started items
  pub line : r.line ≡ line_of_newest items
  pub phase : r.phase ≤ r.line
  pub names : (n : ℕ) → NameTold (owner_in r.names n) r.phase items n
  pub operations : r.counts.operations ≡ operations_in items
  pub bound : r.counts.bound ≡ record_bound r.header.profile items
  pub small : r.counts.bound ≤ 2000000
  pub width : length r.counts.costs ≡ 17
  pub costs : (k : ℕ) → k < 17 → slice_index r.counts.costs k ≡ own_costs r.header.profile k items
  pub samples : TellsSamples r.header.profile r.samples items
  pub phases : HasGathered (phases_in r.header.profile items) r.gathered

-- an operation of the actor may be counted
pub record IsReady (counts : Counts) (actor cost : ℕ) : Type 0 where
  pub is_actor : actor < 17
  pub few : counts.operations < 1000000
  pub small : counts.bound + cost ≤ 2000000
  pub within : slice_index counts.costs actor ≤ counts.bound

-- a request of the thread may be counted
pub record CanSample (s : Samples) (thread : ℕ) : Type 0 where
  pub place : thread < length s.larges
  pub kept_place : thread < length s.kept
  pub larges : slice_index s.larges thread ≤ 1000000
  pub kept : slice_index s.kept thread ≤ 2000000

-- the thread's next request for whole pages is guarded
abbrev pub samples_next : Samples → ℕ → Bool
samples_next s thread = is_sampled s.guard (slice_index s.larges thread + 1)

-- .. of so many bytes, where this many records of it are its keeper's
abbrev pub larges_after : Samples → ℕ → Bool → List ℕ
larges_after s thread large = if large then slice_set s.larges thread (slice_index s.larges thread + 1) else s.larges

abbrev pub kept_after : Samples → ℕ → Bool → ℕ → List ℕ
kept_after s thread guarded cost = if guarded then slice_set s.kept thread (slice_index s.kept thread + cost) else s.kept

-- a request of the thread was counted, where it is for whole pages
pub record IsSampled (old new : Samples) (thread : ℕ) (large : Bool) (cost : ℕ) : Type 0 where
  pub guard : new.guard ≡ old.guard
  pub larges : new.larges ≡ larges_after old thread large
  pub kept : new.kept ≡ kept_after old thread (large && samples_next old thread) cost

-- the keeper of a wish of the thread, by what the reader keeps
abbrev pub keeper_told : Reader → ℕ → Wish → Option ℕ
keeper_told r thread w = if asks_pages w && samples_next r.samples thread then Some (r.header.profile.threads + thread) else None

-- an operation was counted and added
pub record IsCounted (old new : Reader) (actor : ℕ) (what : What) (cost : ℕ) : Type 0 where
  pub header : new.header ≡ old.header
  pub shared : new.shared ≡ old.shared
  pub started : new.started ≡ true
  pub line : new.line ≡ old.line
  pub phase : new.phase ≡ old.phase
  pub names : (n : ℕ) → owner_in new.names n ≡ owner_in old.names n
  pub samples : new.samples ≡ old.samples
  pub operations : new.counts.operations ≡ old.counts.operations + 1
  pub bound : new.counts.bound ≡ old.counts.bound + cost
  pub costs : new.counts.costs ≡ slice_set old.counts.costs actor (slice_index old.counts.costs actor + cost)
  pub gathers : Gathers (add_last (Some (operation old.line actor what))) old.gathered new.gathered

-- .. the name that it makes was given to its thread, and a request for whole pages was counted
pub record IsOperated (old new : Reader) (actor : ℕ) (wish : Wish) (cost : ℕ) : Type 0 where
  pub names : Names
  pub samples : Samples
  pub sampled : IsSampled old.samples samples actor (asks_pages wish) (cost_of_wish 0 wish)
  pub given : (n : ℕ) → owner_in names n
      ≡ (if is_name (name_made wish) n then record { thread = actor; heap = heap_made (heap_told old) wish; phase = old.phase } else owner_in old.names n)
  pub counted : IsCounted (record old { names = names; samples = samples }) new actor
      (what_wished old.header.profile (heap_told old) (keeper_told old actor wish) wish) cost

-- the next phase was begun
pub record IsNextPhase (old new : Reader) : Type 0 where
  pub header : new.header ≡ old.header
  pub shared : new.shared ≡ old.shared
  pub started : new.started ≡ true
  pub line : new.line ≡ old.line
  pub phase : new.phase ≡ old.phase + 1
  pub names : (n : ℕ) → owner_in new.names n ≡ owner_in old.names n
  pub samples : new.samples ≡ old.samples
  pub counts : new.counts ≡ old.counts
  pub gathers : Gathers (λ phases. phases ++ [] ∷ []) old.gathered new.gathered

-- from now on of each thread's requests for whole pages one in so many is guarded
pub record IsGuarding (old new : Reader) (number : Option ℕ) : Type 0 where
  pub header : new.header ≡ old.header
  pub shared : new.shared ≡ old.shared
  pub started : new.started ≡ old.started
  pub line : new.line ≡ old.line
  pub phase : new.phase ≡ old.phase
  pub names : (n : ℕ) → owner_in new.names n ≡ owner_in old.names n
  pub samples : new.samples ≡ record old.samples { guard = guard_with number old.samples.guard }
  pub operations : new.counts.operations ≡ old.counts.operations
  pub bound : new.counts.bound ≡ old.counts.bound + old.header.profile.threads * old.header.profile.pages
  pub costs : new.counts.costs ≡ old.counts.costs
  pub gathered : new.gathered ≡ old.gathered

-- an item was added
pub record IsAdded (old new : Reader) (item : Item) : Type 0 where
  pub header : new.header ≡ old.header
  pub scripting : is_scripting new.gathered ≡ is_scripting old.gathered
  pub line : new.line ≡ old.line + 1
  pub tells : (items : List Item) → Tells old items → reason_of old.header.profile items item ≡ None → Tells new (item ∷ items)

-- the next line was taken after these items, or has this fault
abbrev pub IsTaken : Reader → List Item → List ℕ → Reader → Result (Unit {0}) ReadFault → Type 0
IsTaken old items line new (Ok done) = (i : Item) × (line_says old.header items line ≡ Ok i) × Tells new (i ∷ items) × (new.header ≡ old.header) × (new.line ≡ old.line + 1)
    × (is_scripting new.gathered ≡ is_scripting old.gathered)
IsTaken old items line new (Err (Trace fault)) = (r : Reason) × (line_says old.header items line ≡ Err r) × (fault ≡ fault_at (old.line + 1) r)
IsTaken old items line new (Err NoMemory) = Unit {0}

-- the first line of a text was taken after these items, and this text is left
pub record IsFirstTaken (old : Reader) (items : List Item) (text rest : List ℕ) (new : Reader) (result : Result (Unit {0}) ReadFault) : Type 0 where
  pub line : List ℕ
  pub cut : lines_of text ≡ line ∷ lines_of rest
  pub shorter : length rest < length text
  pub taken : IsTaken old items line new result

-- lines were taken after these items, or have this fault
abbrev pub AreTaken : Reader → List Item → List (List ℕ) → Reader → Result (Unit {0}) ReadFault → Type 0
AreTaken old items lines new (Ok done) = (all : List Item) × (items_from old.header (old.line + 1) items lines ≡ Ok all) × Tells new all × (new.header ≡ old.header)
    × (is_scripting new.gathered ≡ is_scripting old.gathered)
AreTaken old items lines new (Err (Trace fault)) = items_from old.header (old.line + 1) items lines ≡ Err fault
AreTaken old items lines new (Err NoMemory) = Unit {0}

-- the lines of a text were taken after these items, or have this fault
abbrev pub IsRead : Reader → List Item → List ℕ → Reader → Result (Unit {0}) ReadFault → Type 0
IsRead old items text new result = AreTaken old items (lines_of text) new result

-- the reader, which gathers for a script or for a plan, has read the header of the text, and this text is left
pub record IsBegun (for_script : Bool) (text : List ℕ) (r : Reader) (rest : List ℕ) : Type 0 where
  pub line : List ℕ
  pub cut : lines_of text ≡ line ∷ lines_of rest
  pub shorter : length rest < length text
  pub header : header_of line ≡ Some r.header
  pub tells : Tells r []
  pub gathers : is_scripting r.gathered ≡ for_script

-- what a plan of a header and items has beside its phases
pub record IsOutlined (header : Header) (items : List Item) (outline : Outline) : Type 0 where
  pub version : outline.version ≡ header.version
  pub profile : outline.profile ≡ record header.profile { shared = shared_in items }
  pub guard : outline.guard ≡ guard_in items
  pub bounds : bounds_of outline.bounds ≡ all_bounds header.profile items
  pub total : outline.total ≡ record_bound header.profile items
  pub names : AreNamedBelow outline.names_limit items

-- the plan of a header and items
pub record IsPlanned (header : Header) (items : List Item) (plan : Plan) : Type 0 where
  pub outline : IsOutlined header items (outline_of plan)
  pub phases : map ops_of (phases_of plan.phases) ≡ phases_in header.profile items

-- .. and their script
pub record IsScripted (header : Header) (items : List Item) (script : Script) : Type 0 where
  pub outline : IsOutlined header items (outline_in script)
  pub phases : map coded_ops (coded_phases script.phases) ≡ without_lines (phases_in header.profile items)
