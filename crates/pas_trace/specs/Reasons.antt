-- The faults of a text: on each line the first reason that applies, each check asking about the lines before.
use Rattle.std.specs.Prelude.{ℕ, ◌+◌, ◌*◌, ◌/◌, ◌%◌, ◌==◌, nat_lt, nat_le, Bool, true, false, not, ◌&&◌, ◌||◌, if◌then◌else◌, List, [], ◌∷◌, Option, None, Some}
use Rattle.std.specs.Prelude.{codes, Result, Ok, Err}
use Rattle.pas_profile.specs.declared.profile.Profile.{Profile}
use Rattle.pas_trace.specs.{Texts.words_of, Numbers.number_of, Items.{same_bytes, item_of_line}, declared.{header.Header.Header, item.Item.Item}}
use Rattle.pas_trace.specs.declared.item.{Item.TheVariants.{Blank, Shares, Guards, NextPhase, Operates, Scavenges}, Wish.{Wish, TheVariants.{Asks, Frees}}}
use Rattle.pas_trace.specs.declared.{item.Wish.TheVariants.{FreesSized, FreesRaw, FreesRawSized, Remakes, Flushes, Stops}, plan.Chore.Chore}
use Rattle.pas_trace.specs.{declared.fault.Reason.Reason, Wishes.{heap_in, sizing_in, name_made, name_freed, heap_made, asks_pages, holds_of, is_name}}

-- ---- the header: `pas V pages P threads T heaps H age A`, each number within its limits
-- the most pages of a region, by the version of its text
abbrev pub most_pages : ℕ → ℕ
most_pages version = if nat_le 3 version then 16384 else 4096

-- .. and how many classes it has
abbrev pub classes_of : ℕ → ℕ
classes_of version = if nat_le 3 version then 20 else 16

abbrev pub within : ℕ → ℕ → Option ℕ → Option ℕ
within least most None = None
within least most (Some n) = if nat_le least n && nat_le n most then Some n else None

abbrev pub header_with : ℕ → Option ℕ → Option ℕ → Option ℕ → Option ℕ → Option Header
header_with version None t h a = None
header_with version (Some p) None h a = None
header_with version (Some p) (Some t) None a = None
header_with version (Some p) (Some t) (Some h) None = None
header_with version (Some p) (Some t) (Some h) (Some a) =
    Some record { version = version; profile = record { pages = p; threads = t; age = a; heaps = h; shared = 0; classes = classes_of version } }

abbrev pub header_for : Option ℕ → List ℕ → List ℕ → List ℕ → List ℕ → Option Header
header_for None p t h a = None
header_for (Some version) p t h a =
    header_with version (within 1 (most_pages version) (number_of p)) (within 1 16 (number_of t)) (within 1 32 (number_of h)) (within 1 1000000 (number_of a))

abbrev pub header_of_words : List (List ℕ) → Option Header
header_of_words (w1 ∷ v ∷ w3 ∷ p ∷ w5 ∷ t ∷ w7 ∷ h ∷ w9 ∷ a ∷ []) =
    if same_bytes w1 (codes "pas") && same_bytes w3 (codes "pages") && same_bytes w5 (codes "threads") && same_bytes w7 (codes "heaps") && same_bytes w9 (codes "age")
    then header_for (within 1 4 (number_of v)) p t h a else None
header_of_words other = None

-- the first line is no header where it is empty or begins with `#`, as anywhere
abbrev pub header_of : List ℕ → Option Header
header_of line = header_of_words (words_of line)

-- ---- what the items before a line come to; they have the NEWEST FIRST
abbrev pub is_operation : Item → Bool
is_operation Blank = false
is_operation (Shares h) = false
is_operation (Guards n) = false
is_operation NextPhase = false
is_operation (Operates t w) = true
is_operation (Scavenges c) = true

abbrev pub is_phase : Item → Bool
is_phase Blank = false
is_phase (Shares h) = false
is_phase (Guards n) = false
is_phase NextPhase = true
is_phase (Operates t w) = false
is_phase (Scavenges c) = false

-- an operation or a `phase` line stood before
abbrev pub started : List Item → Bool
started [] = false
started (i ∷ earlier) = is_operation i || is_phase i || started earlier

abbrev pub operations_in : List Item → ℕ
operations_in [] = 0
operations_in (i ∷ earlier) = if is_operation i then operations_in earlier + 1 else operations_in earlier

-- the item makes the name
abbrev pub makes : Item → ℕ → Bool
makes Blank name = false
makes (Shares h) name = false
makes (Guards n) name = false
makes NextPhase name = false
makes (Operates t w) name = is_name (name_made w) name
makes (Scavenges c) name = false

-- an item before made the name
abbrev pub is_named : List Item → ℕ → Bool
is_named [] name = false
is_named (i ∷ earlier) name = makes i name || is_named earlier name

-- .. in the present phase
abbrev pub is_named_now : List Item → ℕ → Bool
is_named_now [] name = false
is_named_now (i ∷ earlier) name = if is_phase i then false else (makes i name || is_named_now earlier name)

-- the thread of a line; 0 for those of the scavenger and those that are no operations
abbrev pub actor_of : Item → ℕ
actor_of Blank = 0
actor_of (Shares h) = 0
actor_of (Guards n) = 0
actor_of NextPhase = 0
actor_of (Operates t w) = t
actor_of (Scavenges c) = 0

-- the thread that made the name
abbrev pub thread_of : List Item → ℕ → ℕ
thread_of [] name = 0
thread_of (i ∷ earlier) name = if makes i name then actor_of i else thread_of earlier name

-- the heap of the name, which a request names, and a reallocation has from the name that it reallocates
abbrev pub heap_of_item : (ℕ → ℕ) → Item → ℕ
heap_of_item heaps Blank = 0
heap_of_item heaps (Shares h) = 0
heap_of_item heaps (Guards n) = 0
heap_of_item heaps NextPhase = 0
heap_of_item heaps (Operates t w) = heap_made heaps w
heap_of_item heaps (Scavenges c) = 0

abbrev pub heap_of : List Item → ℕ → ℕ
heap_of [] name = 0
heap_of (i ∷ earlier) name = if makes i name then heap_of_item (heap_of earlier) i else heap_of earlier name

-- ---- guarded sampling
-- the number of the `guard` line, after an item; 0 where there was none
abbrev pub guard_with : Option ℕ → ℕ → ℕ
guard_with None guard = guard
guard_with (Some n) guard = n

abbrev pub guard_after : Item → ℕ → ℕ
guard_after Blank guard = guard
guard_after (Shares h) guard = guard
guard_after (Guards n) guard = guard_with n guard
guard_after NextPhase guard = guard
guard_after (Operates t w) guard = guard
guard_after (Scavenges c) guard = guard

abbrev pub guard_in : List Item → ℕ
guard_in [] = 0
guard_in (i ∷ earlier) = guard_after i (guard_in earlier)

-- an item is a request for whole pages
abbrev pub is_large_request : Item → Bool
is_large_request Blank = false
is_large_request (Shares h) = false
is_large_request (Guards n) = false
is_large_request NextPhase = false
is_large_request (Operates t w) = asks_pages w
is_large_request (Scavenges c) = false

-- how many of them the thread made
abbrev pub large_requests : ℕ → List Item → ℕ
large_requests t [] = 0
large_requests t (i ∷ earlier) = if is_large_request i && (actor_of i == t) then large_requests t earlier + 1 else large_requests t earlier

-- Of a thread's requests for whole pages, counted from 1 in the order of the text, each is guarded whose number is a multiple of that of the `guard` line.
abbrev pub is_sampled : ℕ → ℕ → Bool
is_sampled guard number = not (guard == 0) && (number % guard == 0)

abbrev pub is_guarded : List Item → Item → Bool
is_guarded earlier i = is_large_request i && is_sampled (guard_in earlier) (large_requests (actor_of i) earlier + 1)

-- The actors of a trace of so many threads, beside the scavenger: its threads, and, where there is a `guard` line, behind them a keeper for each.
abbrev pub actors_by : ℕ → ℕ → ℕ
actors_by guard threads = if guard == 0 then threads else 2 * threads

-- ---- how many records an item may make
-- whole pages that hold so many bytes
abbrev pub pages_for : ℕ → ℕ
pages_for size = (size + 4095) / 4096

-- of a request: 2 up to 2,048 bytes, which a class or a bit-fit page serves, and above that one, and one for each page
abbrev pub cost_of_size : ℕ → ℕ
cost_of_size size = if nat_le size 2048 then 2 else 1 + pages_for size

-- .. by the number of the `guard` line: in a guarded trace two more where it is for whole pages, for a guard that goes up and is lowered
abbrev pub cost_of_request : ℕ → ℕ → ℕ
cost_of_request guard size = if nat_le size 2048 then 2 else (if guard == 0 then 1 + pages_for size else 3 + pages_for size)

-- of an operation of a thread
abbrev pub cost_of_wish : ℕ → Wish → ℕ
cost_of_wish guard (Asks n h s a) = cost_of_request guard s
cost_of_wish guard (Frees n) = 1
cost_of_wish guard (FreesSized n s a) = 1
cost_of_wish guard (FreesRaw b n) = 1
cost_of_wish guard (FreesRawSized b n s a) = 1
cost_of_wish guard (Remakes n o s a) = cost_of_request guard s + 1
cost_of_wish guard Flushes = 0
cost_of_wish guard Stops = 0

-- of one of the scavenger
abbrev pub records_of_chore : Profile → Chore → ℕ
records_of_chore f (Chore.Tick epoch) = 1
records_of_chore f Chore.Pass = 1 + f.pages
records_of_chore f (Chore.Idle n) = f.threads

abbrev pub cost_of : Profile → ℕ → Item → ℕ
cost_of f guard Blank = 0
cost_of f guard (Shares h) = 0
cost_of f guard (Guards n) = 0
cost_of f guard NextPhase = 0
cost_of f guard (Operates t w) = cost_of_wish guard w
cost_of f guard (Scavenges c) = records_of_chore f c

-- each by the `guard` line before it
abbrev pub costs_of : Profile → List Item → ℕ
costs_of f [] = 0
costs_of f (i ∷ earlier) = costs_of f earlier + cost_of f (guard_in earlier) i

-- the bound of the records: a deed for each actor and page, and the costs
abbrev pub record_bound : Profile → List Item → ℕ
record_bound f items = actors_by (guard_in items) f.threads * f.pages + costs_of f items

-- ---- the checks of one item, in the order of the reasons; the first that fails gives the reason
abbrev pub first_failed : List (Bool × Reason) → Option Reason
first_failed [] = None
first_failed (c ∷ cs) = if c.0 then first_failed cs else Some c.1

-- an alignment is a power of two from 16 to 4,096
abbrev pub is_alignment : ℕ → Bool
is_alignment a = nat_le 16 a && nat_le a 4096 && (4096 % a == 0)

abbrev pub is_thread : Profile → ℕ → Bool
is_thread f t = nat_le 1 t && nat_le t f.threads

-- those of every operation, by how many there were before, and how many records there may be with this one
abbrev pub few_enough : ℕ → ℕ → List (Bool × Reason)
few_enough operations records = (nat_lt operations 1000000, Reason.TooManyOps) ∷ (nat_le records 2000000, Reason.TraceTooLarge) ∷ []

-- Those of a thread's operation, by what is known of the lines before: which names were made, and which of these the thread may free. A check that
-- asks for a value holds where the operation has none.
abbrev pub own_checks : Profile → (ℕ → Bool) → (ℕ → Bool) → ℕ → Wish → List (Bool × Reason) → List (Bool × Reason)
own_checks f is_known may_free t w few =
    (is_thread f t, Reason.BadThread)
    ∷ (holds_of (λ h. nat_lt h f.heaps) (heap_in w), Reason.BadHeap)
    ∷ (holds_of (λ s. nat_le s.size (4096 * f.pages)) (sizing_in w), Reason.BadSize)
    ∷ (holds_of (λ s. is_alignment s.align) (sizing_in w), Reason.BadAlign)
    ∷ (holds_of (λ n. not (is_known n)) (name_made w), Reason.NameTaken)
    ∷ (holds_of is_known (name_freed w), Reason.NameUnknown)
    ∷ (holds_of may_free (name_freed w), Reason.TooEarly)
    ∷ few

-- a name that another thread made isn't free for this one in the same phase
abbrev pub may_free : List Item → ℕ → ℕ → Bool
may_free earlier t name = (t == thread_of earlier name) || not (is_named_now earlier name)

-- A `guard` line stands before the first operation and `phase` line, and there is one at most. Its number is from 1 to 1,000,000, and the region has room for the keepers: for
-- as many actors more as threads, 16 at most.
abbrev pub is_guard_number : Option ℕ → Bool
is_guard_number None = false
is_guard_number (Some n) = nat_le 1 n && nat_le n 1000000

abbrev pub guard_checks : Profile → Bool → ℕ → Option ℕ → List (Bool × Reason)
guard_checks f begun guard n = (not begun && (guard == 0), Reason.BadWord) ∷ (is_guard_number n, Reason.BadNumber) ∷ (nat_le f.threads 8, Reason.BadThread) ∷ []

abbrev pub checks_of : Profile → List Item → Item → List (Bool × Reason)
checks_of f earlier Blank = []
checks_of f earlier (Shares h) = (nat_lt h f.heaps, Reason.BadHeap) ∷ []
checks_of f earlier (Guards n) = guard_checks f (started earlier) (guard_in earlier) n
checks_of f earlier NextPhase = []
checks_of f earlier (Operates t w) = own_checks f (is_named earlier) (may_free earlier t) t w (few_enough (operations_in earlier) (record_bound f (Operates t w ∷ earlier)))
checks_of f earlier (Scavenges c) = few_enough (operations_in earlier) (record_bound f (Scavenges c ∷ earlier))

-- the fault of an item after those before it
abbrev pub reason_of : Profile → List Item → Item → Option Reason
reason_of f earlier i = first_failed (checks_of f earlier i)

abbrev pub kept : Item → Option Reason → Result Item Reason
kept i None = Ok i
kept i (Some r) = Err r

abbrev pub checked : Profile → List Item → Result Item Reason → Result Item Reason
checked f earlier (Err r) = Err r
checked f earlier (Ok i) = kept i (reason_of f earlier i)

-- what a line says after the items before it, or its reason
abbrev pub line_says : Header → List Item → List ℕ → Result Item Reason
line_says h earlier line = checked h.profile earlier (item_of_line h.version (started earlier) line)
