-- The operations of items follow one another soundly, and may make as many records as the items.
use Rattle.std.proofs.{lemmas.{Bool.{lt-leb, and_parts, cases_lt, false≢true}, List.{length-map, get_or_append_left}}, Common.{◌≡◌, ℕ, ◌≢◌, ◌+◌, ◌*◌, ◌%◌, ◌<◌}}
use Rattle.std.proofs.Common.{◌≤◌, ◌==◌, ◌||◌, ◌&&◌, not, Bool, true, false, if◌then◌else◌, List, [], ◌∷◌, ◌++◌, length, Option, Some, None, refl, ap, sym, ◌∙◌}
use Rattle.std.proofs.Common.{subst, arith, append_assoc, length-append, MatchOption, eq-eqb, ne_eqb, leb-true, leb-false, ltb-true, append-nil, zero, suc}
use Rattle.std.proofs.{Common.{slice_index, inl, inr, map, eqb-true}, Math.{Bool.and-false, Seq.get_or-append_seam}}
use Rattle.pas_profile.specs.{Profiles.{IsValid, IsAdmitted}, declared.profile.Profile.Profile}
use Rattle.pas_trace.specs.Reasons.{guard_in, is_sampled, large_requests, is_guarded, cost_of_size, cost_of_request, is_named, heap_of, actor_of, cost_of}
use Rattle.pas_trace.specs.Reasons.{costs_of, cost_of_wish, records_of_chore, reason_of, actors_by, is_phase, is_named_now, thread_of, is_operation}
use Rattle.pas_trace.specs.{Reasons.operations_in, Plans.{operation, operation_of, keeper_for, request_kept, kept_costs, what_wished, what_of_chore, add_last}}
use Rattle.pas_trace.specs.Plans.{phases_in, phases_after, line_of_newest, own_costs, IsPlanOf, phases_of, ops_of, shared_in, bound_of, bounds_upto, bounds_of}
use Rattle.pas_trace.specs.{Asked.{request_in, keeper_in, freed_in}, EveryPhase.{FreesItsOwn, FreeTheirOwn}, Wishes.is_large, EveryPlan.{all_ops, IsThread}}
use Rattle.pas_trace.specs.EveryPlan.{is_asked, asked_with, asked_after, asked_by, AreBelow, AreSound, AreKept, records_of_what, records_of_ops, own_records}
use Rattle.pas_trace.specs.{EveryPlan.{kept_records, operations_of, IsSound}, declared.item.{Request.Request, Item.{Item, TheVariants.{NextPhase, Operates}}}}
use Rattle.pas_trace.specs.declared.item.{Item.TheVariants.Scavenges, Wish.{Wish, TheVariants.{Asks, Frees, FreesSized, FreesRaw, FreesRawSized, Remakes}}}
use Rattle.pas_trace.{specs.declared.{item.Wish.TheVariants.{Flushes, Stops}, plan.{Chore.Chore, Op.Op, Plan.Plan}}, proofs.ParsedItems.{IsInRange, AreChecked}}
use Rattle.pas_trace.proofs.{ParsedItems.parts_of, Rooms.room_named, Costs.{unguarded_cost, guarded_cost, least_cost}, WordLines.lines_few}
use Rattle.pas_trace.proofs.{Telling.bound-thread, PassedChecks.{own_passed, guard_passed, is_not, held_both, counts_within}}

-- ---- the operations of items in one list: those before, and that of the newest item, where it is one
abbrev pub ops_in : Profile → List Item → List Op
ops_in f items = all_ops (phases_in f items)

abbrev one : Option Op → List Op
one None = []
one (Some op) = op ∷ []

abbrev pub new_ops : Profile → Item → List Item → List Op
new_ops f i earlier = one (operation_of f (heap_of earlier) (keeper_for f earlier i) (line_of_newest (i ∷ earlier)) i)

all_more : (phases : List (List Op)) → all_ops (phases ++ [] ∷ []) ≡ all_ops phases
all_more [] = refl
all_more (p ∷ ps) = ap (λ ops. p ++ ops) (all_more ps)

all_add : (op : Op) (phases : List (List Op)) → all_ops (add_last (Some op) phases) ≡ all_ops phases ++ op ∷ []
all_add op [] = refl
all_add op (p ∷ []) = append-nil (p ++ op ∷ []) ∙ ap (λ ops. ops ++ op ∷ []) (sym (append-nil p))
all_add op (p ∷ q ∷ phases) = ap (λ ops. p ++ ops) (all_add op (q ∷ phases)) ∙ sym (append_assoc p (all_ops (q ∷ phases)) (op ∷ []))

-- The operations of one item more stand behind those of the items before.
ops_next : (f : Profile) (i : Item) (earlier : List Item) → ops_in f (i ∷ earlier) ≡ ops_in f earlier ++ new_ops f i earlier
ops_next f i earlier = search (arith, append-nil, all_more, all_add)

-- ---- they follow one another
asked_both : (asked : List ℕ) (xs ys : List Op) → asked_by asked (xs ++ ys) ≡ asked_by (asked_by asked xs) ys
asked_both asked [] ys = refl
asked_both asked (x ∷ xs) ys = asked_both (asked_after x.what asked) xs ys

sound_both : (f : Profile) (asked : List ℕ) (xs ys : List Op) → AreSound f asked xs → AreSound f (asked_by asked xs) ys → AreSound f asked (xs ++ ys)
sound_both f asked [] ys a b = b
sound_both f asked (x ∷ xs) ys a b = (a.0, a.1, sound_both f (asked_after x.what asked) xs ys a.2 b)

-- the names are those that the items allocate
abbrev pub AreNames : List ℕ → List Item → Type 0
AreNames asked items = (n : ℕ) → is_asked asked n ≡ is_named items n

abbrev sharing : Profile → ℕ → Profile
sharing f shared = record f { shared = shared }

-- each name has a heap of the profile
abbrev HaveHeaps : Profile → List Item → Type 0
HaveHeaps f items = (n : ℕ) → is_named items n ≡ true → heap_of items n < f.heaps

item_heaps : (f : Profile) (i : Item) (earlier : List Item) → reason_of f earlier i ≡ None → HaveHeaps f earlier → HaveHeaps f (i ∷ earlier)
item_heaps f i earlier passed homes n known = search (arith, ltb-true, own_passed)

all_heaps : (f : Profile) (items : List Item) → AreChecked f items → HaveHeaps f items
all_heaps f [] checked = λ n known. absurd (cc)
all_heaps f (i ∷ earlier) checked = item_heaps f i earlier checked.0.passes (all_heaps f earlier checked.1)

-- a request that is guarded, or isn't
request_sound : (f : Profile) (t n h s a : ℕ) (guarded : Bool) (line : ℕ) (asked : List ℕ) → IsThread f t → IsAdmitted f s a h → is_asked asked n ≡ false
    → (guarded ≡ true → 2048 < s)
    → AreSound f asked (operation line t (request_kept (if guarded then Some (f.threads + t) else None) n h s a) ∷ [])
request_sound f t n h s a guarded line asked thread admitted fresh large = search arith

item_sound : (f : Profile) (shared : ℕ) (i : Item) (earlier : List Item) (asked : List ℕ) → reason_of f earlier i ≡ None → IsInRange i → AreNames asked earlier
    → IsValid f → HaveHeaps f earlier → AreSound (sharing f shared) asked (new_ops f i earlier)
item_sound f shared (Operates t (Asks n h s a)) earlier asked passed range names valid homes =
    search (arith, own_passed, leb-true, request_sound, ltb-true, is_not, leb-false, and_parts)
item_sound f shared (Operates t (Frees n)) earlier asked passed range names valid homes =
    let held = own_passed f earlier t (Frees n) passed in (held.thread, (names n ∙ held.known, tt), tt)
item_sound f shared (Operates t (FreesSized n s a)) earlier asked passed range names valid homes =
    let held = own_passed f earlier t (FreesSized n s a) passed in
    let size = leb-true s (4096 * f.pages) held.size in
    (held.thread, (names n ∙ held.known, room_named f s a valid (omega (arith, size))), tt)
item_sound f shared (Operates t (FreesRaw a n)) earlier asked passed range names valid homes =
    ((own_passed f earlier t (FreesRaw a n) passed).thread, (range, tt), tt)
item_sound f shared (Operates t (FreesRawSized b n s a)) earlier asked passed range names valid homes =
    let held = own_passed f earlier t (FreesRawSized b n s a) passed in
    (held.thread, (range, room_named f s a valid (omega (arith, leb-true s (4096 * f.pages) held.size))), tt)
item_sound f shared (Operates t (Remakes n o s a)) earlier asked passed range names valid homes =
    search (arith, own_passed, leb-true, is_not)
item_sound f shared (Operates t Flushes) earlier asked passed range names valid homes = ((own_passed f earlier t Flushes passed).thread, tt, tt)
item_sound f shared (Operates t Stops) earlier asked passed range names valid homes = ((own_passed f earlier t Stops passed).thread, tt, tt)
item_sound f shared (Scavenges (Chore.Tick e)) earlier asked passed range names valid homes = (refl, range, tt)
item_sound f shared (Scavenges Chore.Pass) earlier asked passed range names valid homes = (refl, range, tt)
item_sound f shared (Scavenges (Chore.Idle n)) earlier asked passed range names valid homes = (refl, range, tt)
item_sound f shared i earlier asked passed range names valid homes = tt

-- A chore asks for no name of the trace.
asks_none : (c : Chore) (asked : List ℕ) → asked_after (what_of_chore c) asked ≡ asked
asks_none c asked = search arith

pub record AreFollowing (f : Profile) (shared : ℕ) (items : List Item) : Type 0 where
  pub sound : AreSound (sharing f shared) [] (ops_in f items)
  pub names : AreNames (asked_by [] (ops_in f items)) items

-- The operations of items that passed their checks follow one another soundly.
following : (f : Profile) (shared : ℕ) (items : List Item) → IsValid f → AreChecked f items → AreFollowing f shared items
following f shared [] valid checked = record { sound = tt; names = λ n. refl }
following f shared (i ∷ earlier) valid checked =
    let before = following f shared earlier valid checked.1 in
    let asked = asked_by [] (ops_in f earlier) in
    record {
      sound = search (arith, ops_next, sound_both, item_sound, all_heaps);
      names = subst (λ now. AreNames now (i ∷ earlier)) (sym (ap (asked_by []) (ops_next f i earlier) ∙ asked_both [] (ops_in f earlier) (new_ops f i earlier)))
          (λ m. search (arith, asks_none));
    }

-- ---- the names that they ask for are below a limit above all of them
or_right : (s t : Bool) → t ≡ true → s || t ≡ true
or_right s t is = search arith

-- a name that was asked for stays so
pub kept_with : (request : Option Request) (asked : List ℕ) (n : ℕ) → is_asked asked n ≡ true → is_asked (asked_with request asked) n ≡ true
kept_with request asked n is = search (arith, or_right)

kept_by : (asked : List ℕ) (ops : List Op) (n : ℕ) → is_asked asked n ≡ true → is_asked (asked_by asked ops) n ≡ true
kept_by asked [] n is = is
kept_by asked (op ∷ ops) n is = kept_by (asked_after op.what asked) ops n (kept_with (request_in op.what) asked n is)

below_one : (limit : ℕ) (request : Option Request) (asked : List ℕ) (ops : List Op)
    → ((n : ℕ) → is_asked (asked_by (asked_with request asked) ops) n ≡ true → n < limit) → MatchOption request (Unit {0}) (λ r. r.name < limit)
below_one limit None asked ops all = tt
below_one limit (Some r) asked ops all = all r.name (kept_by (r.name ∷ asked) ops r.name (ap (λ t. t || is_asked asked r.name) (eq-eqb r.name r.name refl)))

-- Operations whose names are all below a limit are below it.
all_below : (limit : ℕ) (asked : List ℕ) (ops : List Op) → ((n : ℕ) → is_asked (asked_by asked ops) n ≡ true → n < limit) → AreBelow limit ops
all_below limit asked [] all = tt
all_below limit asked (op ∷ ops) all = (below_one limit (request_in op.what) asked ops all, all_below limit (asked_after op.what asked) ops all)

-- ---- how many records
pub records_both : (f : Profile) (xs ys : List Op) → records_of_ops f (xs ++ ys) ≡ records_of_ops f xs + records_of_ops f ys
records_both f [] ys = omega arith
records_both f (x ∷ xs) ys = omega (arith, records_both f xs ys)

-- What a thread's operations may make of records is counted over both of two lists.
pub own_both : (f : Profile) (k : ℕ) (xs ys : List Op) → own_records f k (xs ++ ys) ≡ own_records f k xs + own_records f k ys
own_both f k [] ys = omega arith
own_both f k (x ∷ xs) ys = omega (arith, own_both f k xs ys)

-- an operation may make as many records as its line costs, or fewer: in a guarded trace one for whole pages may cost two more
large_records : (guard size : ℕ) (guarded : Bool) (n h a t : ℕ) (f : Profile) → (guarded ≡ true → 2048 < size) → (guarded ≡ true → guard ≢ 0)
    → records_of_what f (request_kept (if guarded then Some (f.threads + t) else None) n h size a) ≤ cost_of_request guard size
large_records guard size guarded n h a t f large given = search (arith, guarded_cost, least_cost)

not_none : (guard number : ℕ) (none : Bool) → (guard == 0) ≡ none → not none && (number % guard == 0) ≡ true → guard ≢ 0
not_none guard number none is sampled = search (arith, eq-eqb)

wish_records : (f : Profile) (shared : ℕ) (heaps : ℕ → ℕ) (earlier : List Item) (t : ℕ) (w : Wish)
    → records_of_what (sharing f shared) (what_wished f heaps (keeper_for f earlier (Operates t w)) w) ≤ cost_of_wish (guard_in earlier) w
wish_records f shared heaps earlier t w = search (arith, large_records, and_parts, leb-false, not_none, least_cost)

chore_records : (f : Profile) (shared : ℕ) (c : Chore) → records_of_what (sharing f shared) (what_of_chore c) ≡ records_of_chore f c
chore_records f shared c = search arith

if_le : (t : Bool) (m n : ℕ) → m ≤ n → (if t then m else 0) + 0 ≤ (if t then n else 0)
if_le t m n le = search arith

own_more : (t : Bool) (own cost : ℕ) → own + (if t then cost else 0) ≡ (if t then own + cost else own)
own_more t own cost = search arith

-- The operations of items may make at most as many records as the items.
all_records : (f : Profile) (shared : ℕ) (items : List Item) → records_of_ops (sharing f shared) (ops_in f items) ≤ costs_of f items
all_records f shared [] = omega arith
all_records f shared (i ∷ earlier) =
    let g = sharing f shared in
    let both = ap (records_of_ops g) (ops_next f i earlier) ∙ records_both g (ops_in f earlier) (new_ops f i earlier) in
    let item_records : records_of_ops (sharing f shared) (new_ops f i earlier) ≤ cost_of f (guard_in earlier) i = search (arith, wish_records, chore_records) in
    omega (arith, both, item_records, all_records f shared earlier)

-- An actor's operations may make at most as many records as its items.
all_own : (f : Profile) (shared k : ℕ) (items : List Item) → own_records (sharing f shared) k (ops_in f items) ≤ own_costs f k items
all_own f shared k [] = omega arith
all_own f shared k (i ∷ earlier) =
    let g = sharing f shared in
    let both = ap (own_records g k) (ops_next f i earlier) ∙ own_both g k (ops_in f earlier) (new_ops f i earlier) in
    let more = own_more (actor_of i == k) (own_costs f k earlier) (cost_of f (guard_in earlier) i) in
    let item_own : own_records (sharing f shared) k (new_ops f i earlier) ≤ (if actor_of i == k then cost_of f (guard_in earlier) i else 0) =
    search (arith, if_le, wish_records, chore_records) in omega (arith, both, more, item_own, all_own f shared k earlier)

-- The scavenger's operations may make just as many records as its items.
all_scavenger : (f : Profile) (shared : ℕ) (items : List Item) → AreChecked f items
    → own_records (sharing f shared) 0 (ops_in f items) ≡ own_costs f 0 items
all_scavenger f shared [] checked = refl
all_scavenger f shared (i ∷ earlier) checked =
    let g = sharing f shared in
    let both = ap (own_records g 0) (ops_next f i earlier) ∙ own_both g 0 (ops_in f earlier) (new_ops f i earlier) in
    let more = own_more (actor_of i == 0) (own_costs f 0 earlier) (cost_of f (guard_in earlier) i) in
    let item_scavenger : own_records (sharing f shared) 0 (new_ops f i earlier) ≡ (if actor_of i == 0 then cost_of f (guard_in earlier) i else 0) =
    search (arith, own_passed, ne_eqb, chore_records) in omega (arith, both, more, item_scavenger, all_scavenger f shared earlier checked.1)

-- ---- without a `guard` line they may make as many as their lines cost
none_guarded : (earlier : List Item) (t n h s a : ℕ) → guard_in earlier ≡ 0 → is_guarded earlier (Operates t (Asks n h s a)) ≡ false
none_guarded earlier t n h s a none = ap (λ guard. is_large s && is_sampled guard (large_requests t earlier + 1)) none ∙ and-false (is_large s)

if_same : (t : Bool) (n : ℕ) → n ≡ (if t then n else n)
if_same t n = search arith

none_before : (f : Profile) (i : Item) (earlier : List Item) → reason_of f earlier i ≡ None → guard_in (i ∷ earlier) ≡ 0 → guard_in earlier ≡ 0
none_before f i earlier passed given = search (arith, guard_passed)

-- Without a guard, operations may make just as many records as their items.
exact_records : (f : Profile) (shared : ℕ) (items : List Item) → AreChecked f items → guard_in items ≡ 0
    → records_of_ops (sharing f shared) (ops_in f items) ≡ costs_of f items
exact_records f shared [] checked none = refl
exact_records f shared (i ∷ earlier) checked none =
    let g = sharing f shared in
    let before = none_before f i earlier checked.0.passes none in
    let both = ap (records_of_ops g) (ops_next f i earlier) ∙ records_both g (ops_in f earlier) (new_ops f i earlier) in
    let item_exact : records_of_ops (sharing f shared) (new_ops f i earlier) ≡ cost_of f (guard_in earlier) i =
    search (arith, none_guarded, unguarded_cost, chore_records) in omega (arith, both, item_exact, exact_records f shared earlier checked.1 before)

-- Without a guard, an actor's operations may make just as many records as its items.
exact_own : (f : Profile) (shared k : ℕ) (items : List Item) → AreChecked f items → guard_in items ≡ 0
    → own_records (sharing f shared) k (ops_in f items) ≡ own_costs f k items
exact_own f shared k [] checked none = refl
exact_own f shared k (i ∷ earlier) checked none =
    let g = sharing f shared in
    let before = none_before f i earlier checked.0.passes none in
    let both = ap (own_records g k) (ops_next f i earlier) ∙ own_both g k (ops_in f earlier) (new_ops f i earlier) in
    let more = own_more (actor_of i == k) (own_costs f k earlier) (cost_of f (guard_in earlier) i) in
    let own_exactly : own_records (sharing f shared) k (new_ops f i earlier) ≡ (if actor_of i == k then cost_of f (guard_in earlier) i else 0) = search (arith, none_guarded, unguarded_cost, chore_records, if_same) in omega (arith, both, more, own_exactly, exact_own f shared k earlier checked.1 before)

-- ---- what keepers may make for them, and who they are
kept_both : (k : ℕ) (xs ys : List Op) → kept_records k (xs ++ ys) ≡ kept_records k xs + kept_records k ys
kept_both k [] ys = omega arith
kept_both k (x ∷ xs) ys = omega (arith, kept_both k xs ys)

none_or : (t : Bool) → (if t then 0 else 0) + 0 ≡ 0
none_or t = search arith

kept_one : (f : Profile) (guarded mine : Bool) (line t k n h s a : ℕ) → (t == k) ≡ mine
    → kept_records k (operation line t (request_kept (if guarded then Some (f.threads + t) else None) n h s a) ∷ [])
    ≡ (if guarded && mine then cost_of_size s else 0)
kept_one f guarded mine line t k n h s a is = search (arith, none_or)

-- A keeper's operations may make just as many records as its items.
all_kept : (f : Profile) (k : ℕ) (items : List Item) → kept_records k (ops_in f items) ≡ kept_costs f k items
all_kept f k [] = refl
all_kept f k (i ∷ earlier) =
    let both = ap (kept_records k) (ops_next f i earlier) ∙ kept_both k (ops_in f earlier) (new_ops f i earlier) in
    let more = own_more (is_guarded earlier i && (actor_of i == k)) (kept_costs f k earlier) (cost_of f 0 i) in
    let item_kept : kept_records k (new_ops f i earlier) ≡ (if is_guarded earlier i && (actor_of i == k) then cost_of f 0 i else 0) =
    search (arith, kept_one, none_or) in omega (arith, both, more, item_kept, all_kept f k earlier)

-- each guarded request after a `guard` line has the keeper of its thread
one_kept : (f : Profile) (guard : ℕ) (guarded : Bool) (line t n h s a : ℕ) → (guarded ≡ true → guard ≢ 0)
    → AreKept f guard (operation line t (request_kept (if guarded then Some (f.threads + t) else None) n h s a) ∷ [])
one_kept f guard guarded line t n h s a given = search arith

keepers_both : (f : Profile) (guard : ℕ) (xs ys : List Op) → AreKept f guard xs → AreKept f guard ys → AreKept f guard (xs ++ ys)
keepers_both f guard [] ys a b = b
keepers_both f guard (x ∷ xs) ys a b = (a.0, keepers_both f guard xs ys a.1 b)

-- a `guard` line stands before them all
kept_so : (guard other place : ℕ) (o : Option ℕ) → (guard ≢ 0 → other ≢ 0) → MatchOption o (Unit {0}) (λ keeper. (keeper ≡ place) × (guard ≢ 0))
    → MatchOption o (Unit {0}) (λ keeper. (keeper ≡ place) × (other ≢ 0))
kept_so guard other place o more kept = search arith

same_guard : (f : Profile) (guard other : ℕ) (ops : List Op) → (guard ≢ 0 → other ≢ 0) → AreKept f guard ops → AreKept f other ops
same_guard f guard other [] more kept = tt
same_guard f guard other (op ∷ ops) more kept = (kept_so guard other (f.threads + op.actor) _ more kept.0, same_guard f guard other ops more kept.1)

guard_more : (f : Profile) (i : Item) (earlier : List Item) → reason_of f earlier i ≡ None → guard_in earlier ≢ 0 → guard_in (i ∷ earlier) ≢ 0
guard_more f i earlier passed given = search (arith, guard_passed)

item_guard : (f : Profile) (i : Item) (earlier : List Item) → reason_of f earlier i ≡ None → AreKept f (guard_in (i ∷ earlier)) (new_ops f i earlier)
item_guard f i earlier passed =
    same_guard f (guard_in earlier) (guard_in (i ∷ earlier)) (new_ops f i earlier) (guard_more f i earlier passed)
    (search (arith, one_kept, and_parts, leb-false, not_none))

-- The guarded requests of items that passed their checks are kept by their threads' keepers.
all_keepers : (f : Profile) (items : List Item) → AreChecked f items → AreKept f (guard_in items) (ops_in f items)
all_keepers f [] checked = tt
all_keepers f (i ∷ earlier) checked =
    let guard = guard_in (i ∷ earlier) in
    subst (AreKept f guard) (sym (ops_next f i earlier))
    (keepers_both f guard _ _ (same_guard f (guard_in earlier) guard (ops_in f earlier) (guard_more f i earlier checked.0.passes) (all_keepers f earlier checked.1))
    (item_guard f i earlier checked.0.passes))

-- ---- how many phases: one, and one for each item at most
add_few : (op : Op) (phases : List (List Op)) → length (add_last (Some op) phases) ≤ length phases + 1
add_few op [] = omega arith
add_few op (p ∷ []) = omega arith
add_few op (p ∷ q ∷ phases) = omega (arith, add_few op (q ∷ phases))

-- There is at most one phase more than items.
pub phases_within : (f : Profile) (items : List Item) → length (phases_in f items) ≤ length items + 1
phases_within f [] = omega arith
phases_within f (i ∷ earlier) =
    let after_few : length (phases_after f (heap_of earlier) (keeper_for f earlier i) i (line_of_newest (i ∷ earlier)) (phases_in f earlier)) ≤ length
    (phases_in f earlier) + 1 = search (arith, length-append, add_few) in omega (arith, after_few, phases_within f earlier)

-- ==== The plan of every text is sound.

-- There are as many bounds as actors.
pub bounds_count : (f : Profile) (items : List Item) (n : ℕ) → length (bounds_upto f items n) ≡ n
bounds_count f items zero = refl
bounds_count f items (suc n) = omega (arith, bounds_count f items n, length-append (bounds_upto f items n) (bound_of f items n ∷ []))

bound_at : (f : Profile) (items : List Item) (k n : ℕ) → k < n → slice_index (bounds_upto f items n) k ≡ bound_of f items k
bound_at f items k zero lt = absurd (omega (arith, lt))
bound_at f items k (suc n) lt =
    let count = bounds_count f items n in
    elim (cases_lt k n) [
      | inl below ↦ get_or_append_left (bounds_upto f items n) (bound_of f items n ∷ []) 0 k (omega (arith, below, count)) ∙ bound_at f items k n below
      | inr ge ↦
          let same : k ≡ n = omega (arith, lt, ge) in
          ap (slice_index (bounds_upto f items n ++ bound_of f items n ∷ [])) (same ∙ sym count) ∙ get_or-append_seam (bounds_upto f items n) (bound_of f items n) [] 0 ∙ ap (bound_of f items) (sym same)
    ]

-- ---- the actors
guarded_few : (none : Bool) (threads : ℕ) → threads ≤ 16 → threads ≤ 8 → (if none then threads else 2 * threads) ≤ 16
guarded_few none threads most few = search arith

-- There are twice as many actors as threads at most.
among : (none : Bool) (threads : ℕ) → threads ≤ (if none then threads else 2 * threads)
among none threads = search arith

of_one : (f g guard place : ℕ) (o : Option ℕ) → f ≡ g → MatchOption o (Unit {0}) (λ keeper. (keeper ≡ g + place) × (guard ≢ 0))
    → MatchOption o (Unit {0}) (λ keeper. (keeper ≡ f + place) × (guard ≢ 0))
of_one f g guard place o same kept = search arith

of_threads : (f g : Profile) (guard : ℕ) (ops : List Op) → f.threads ≡ g.threads → AreKept g guard ops → AreKept f guard ops
of_threads f g guard [] same kept = tt
of_threads f g guard (op ∷ ops) same kept = (of_one f.threads g.threads guard op.actor (keeper_in op.what) same kept.0, of_threads f g guard ops same kept.1)

-- there are 16 at most beside the scavenger
few_actors : (f : Profile) (i : Item) (earlier : List Item) → reason_of f earlier i ≡ None → f.threads ≤ 16 → actors_by (guard_in earlier) f.threads ≤ 16
    → actors_by (guard_in (i ∷ earlier)) f.threads ≤ 16
few_actors f i earlier passed threads few = search (arith, guarded_few, guard_passed)

actors_few : (f : Profile) (items : List Item) → AreChecked f items → f.threads ≤ 16 → actors_by (guard_in items) f.threads ≤ 16
actors_few f [] checked threads = threads
actors_few f (i ∷ earlier) checked threads = few_actors f i earlier checked.0.passes threads (actors_few f earlier checked.1 threads)

-- .. no fewer than threads
pub threads_among : (guard threads : ℕ) → threads ≤ actors_by guard threads
threads_among guard threads = among (guard == 0) threads

-- The keeper of each thread of a guarded plan is among its actors.
pub keepers_among : (guard threads k : ℕ) → guard ≢ 0 → k ≤ threads → threads + k ≤ actors_by guard threads
keepers_among guard threads k some within =
    subst (λ (b : Bool). threads + k ≤ (if b then threads else 2 * threads)) (sym (ne_eqb guard 0 some)) (omega (arith, within))

-- The plan of every text is sound.
pub every_plan : {text : List ℕ} {plan : Plan} → IsPlanOf text plan → IsSound text plan
every_plan {text} {plan} is =
    let all = parts_of text is.header is.items is.read in
    let f = is.header.profile in
    let g : Profile = record f { shared = shared_in is.items } in
    let actors = actors_by (guard_in is.items) f.threads in
    let ops : operations_of plan ≡ ops_in f is.items = ap all_ops is.phases in
    let follow = following f (shared_in is.items) is.items all.valid all.checked in
    let few = all.few in
    let phases = phases_within f is.items in
    let many : length (phases_of plan.phases) ≡ length (phases_in f is.items) = sym (length-map (phases_of plan.phases) ops_of) ∙ ap (λ ps. length ps) is.phases in
    let bound : (k : ℕ) → k < actors + 1 → slice_index (bounds_of plan.bounds) k ≡ bound_of f is.items k = λ k lt. ap (λ bs. slice_index bs k) is.bounds ∙ bound_at f is.items k (actors + 1) lt in
    let own : (k : ℕ) → own_records plan.profile k (operations_of plan) ≤ own_costs f k is.items = search (arith, all_own) in
    let threads : plan.profile.threads ≡ f.threads = ap (λ h. h.threads) is.profile in
    let pages : plan.profile.pages ≡ f.pages = ap (λ h. h.pages) is.profile in
    let known : actors_by plan.guard plan.profile.threads ≡ actors = ap (λ n. actors_by n plan.profile.threads) is.guard ∙ ap (actors_by (guard_in is.items)) threads in
    let among = threads_among (guard_in is.items) f.threads in
    let valid = all.valid in
    record {
      valid = search arith;
      operations = subst (λ h. AreSound h [] (operations_of plan)) (sym is.profile) (subst (λ os. AreSound g [] os) (sym ops) follow.sound);
      names = subst (AreBelow plan.names_limit) (sym ops) (all_below plan.names_limit [] (ops_in f is.items) (λ n asked. is.names n (sym (follow.names n) ∙ asked)));
      phases = omega (arith, many, phases, few, lines_few text);
      actors = omega (arith, known, actors_few f is.items all.checked all.valid.threads);
      keepers = subst (λ (os : List Op). AreKept plan.profile plan.guard os) (sym ops) (rw is.guard (of_threads plan.profile f (guard_in is.items) (ops_in f is.items) threads (all_keepers f is.items all.checked)));
      count = ap (λ bs. length bs) is.bounds ∙ bounds_count f is.items (actors + 1) ∙ ap (λ n. n + 1) (sym known);
      scavenger = bound 0 (omega arith) ∙ sym (ap (λ h. own_records h 0 (operations_of plan)) is.profile ∙ ap (own_records g 0) ops ∙ all_scavenger f (shared_in is.items) is.items all.checked);
      own = search (arith, bound-thread);
      exact_own = λ none k some le.
          let thread = bound-thread f is.items k some (omega (arith, le, threads)) in
          let same = ap (λ h. own_records h k (operations_of plan)) is.profile ∙ ap (own_records g k) ops ∙ exact_own f (shared_in is.items) k is.items all.checked (sym is.guard ∙ none) in
          omega (arith, bound k (omega (arith, le, threads, among)), thread, same, pages);
      kept = search (arith, keepers_among, ne_eqb, lt-leb, all_kept);
      total =
          search (arith, all_records);
      exact_total = search (arith, exact_records);
    }

-- the first of several operations are below the limit of all
pub below_front : (limit : ℕ) (xs ys : List Op) → AreBelow limit (xs ++ ys) → AreBelow limit xs
below_front limit [] ys below = tt
below_front limit (x ∷ xs) ys below = (below.0, below_front limit xs ys below.1)

-- ==== In each phase of every plan, the names that a thread frees were asked for by itself or before the phase.

-- ---- the names that thread k may free: those that were asked for before the phase, and its own after operations of the phase
abbrev own_after : ℕ → List ℕ → Op → List ℕ
own_after k asked op = if op.actor == k then asked_after op.what asked else asked

abbrev own_by : ℕ → List ℕ → List Op → List ℕ
own_by k asked [] = asked
own_by k asked (op ∷ ops) = own_by k (own_after k asked op) ops

own_in_turn : (k : ℕ) (asked : List ℕ) (xs ys : List Op) → own_by k asked (xs ++ ys) ≡ own_by k (own_by k asked xs) ys
own_in_turn k asked [] ys = refl
own_in_turn k asked (x ∷ xs) ys = own_in_turn k (own_after k asked x) xs ys

frees_both : (k : ℕ) (asked : List ℕ) (xs ys : List Op) → FreesItsOwn k asked xs → FreesItsOwn k (own_by k asked xs) ys → FreesItsOwn k asked (xs ++ ys)
frees_both k asked [] ys a b = b
frees_both k asked (x ∷ xs) ys a b = (a.0, frees_both k (own_after k asked x) xs ys a.1 b)

-- ---- the last phase after others
frees_last : (asked : List ℕ) (front : List (List Op)) (last : List Op) → FreeTheirOwn asked front
    → ((k : ℕ) → FreesItsOwn k (asked_by asked (all_ops front)) last) → FreeTheirOwn asked (front ++ last ∷ [])
frees_last asked [] last fronts frees = (frees, tt)
frees_last asked (p ∷ ps) last fronts frees =
    (fronts.0, frees_last _ ps last fronts.1 (λ k. subst (λ now. FreesItsOwn k now last) (asked_both asked p _) (frees k)))

add_behind : (op : Op) (front : List (List Op)) (last : List Op) → add_last (Some op) (front ++ last ∷ []) ≡ front ++ (last ++ op ∷ []) ∷ []
add_behind op [] last = refl
add_behind op (p ∷ []) last = refl
add_behind op (p ∷ q ∷ ps) last = ap (λ phases. p ∷ phases) (add_behind op (q ∷ ps) last)

all_behind : (front : List (List Op)) (last : List Op) → all_ops (front ++ last ∷ []) ≡ all_ops front ++ last
all_behind [] last = append-nil last
all_behind (p ∷ ps) last = ap (λ ops. p ++ ops) (all_behind ps last) ∙ sym (append_assoc p (all_ops ps) last)

-- ---- the names that an item's thread may free by the check of its line
abbrev MayFree : List Item → ℕ → ℕ → Type 0
MayFree items k n = (is_named items n ≡ true) × (((k == thread_of items n) || not (is_named_now items n)) ≡ true)

-- of each thread, these names have all that it may free
abbrev HaveOwn : (ℕ → List ℕ) → List Item → Type 0
HaveOwn own items = (k n : ℕ) → MayFree items k n → is_asked (own k) n ≡ true

-- the names that these phases asked for
abbrev asked_in : List (List Op) → List ℕ
asked_in phases = asked_by [] (all_ops phases)

-- the phases of items end with this one, and each thread frees its own in all of them
record HasLast (f : Profile) (items : List Item) : Type 0 where
  front : List (List Op)
  last : List Op
  same : phases_in f items ≡ front ++ last ∷ []
  fronts : FreeTheirOwn [] front
  names : AreNames (asked_by (asked_in front) last) items
  frees : (k : ℕ) → FreesItsOwn k (asked_in front) last
  own : HaveOwn (λ k. own_by k (asked_in front) last) items

chore_frees : (c : Chore) → freed_in (what_of_chore c) ≡ None
chore_frees c = search arith

-- ---- what a thread may free after an item
either_same : (t : Bool) (asked : List ℕ) (n : ℕ) → is_asked asked n ≡ true → is_asked (if t then asked else asked) n ≡ true
either_same t asked n is = search arith

only_left : (t : Bool) → t || false ≡ true → t ≡ true
only_left t is = search arith

-- ---- item by item
after_other : (f : Profile) (i : Item) (earlier : List Item) → is_phase i ≡ false → reason_of f earlier i ≡ None → HasLast f earlier → HasLast f (i ∷ earlier)
after_other f i earlier other passed at =
    let before = asked_in at.front in
    let own : ℕ → List ℕ = λ k. own_by k before at.last in
    let news = new_ops f i earlier in
    record {
      front = at.front;
      last = at.last ++ news;
      same = search (arith, append-nil, add_behind);
      fronts = at.fronts;
      names = subst (λ now. AreNames now (i ∷ earlier)) (sym (asked_both before at.last news)) (λ m. search (arith, asks_none));
      frees = λ k. frees_both k before at.last news (at.frees k) (search (arith, own_passed, held_both, chore_frees));
      own = λ k n may. rw own_in_turn (search (arith, false≢true, eq-eqb, eqb-true, only_left, asks_none, either_same));
    }

after_item : (f : Profile) (i : Item) (earlier : List Item) → reason_of f earlier i ≡ None → HasLast f earlier → HasLast f (i ∷ earlier)
after_item f NextPhase earlier passed at = let asked : asked_by (asked_in at.front) at.last ≡ asked_in (at.front ++ at.last ∷ []) =
    sym (ap (asked_by []) (all_behind at.front at.last) ∙ asked_both [] (all_ops at.front) at.last) in
    let names : AreNames (asked_in (at.front ++ at.last ∷ [])) earlier = subst (λ now. AreNames now earlier) asked at.names in
    record {
      front = at.front ++ at.last ∷ [];
      last = [];
      same = ap (λ phases. phases ++ [] ∷ []) at.same;
      fronts = frees_last [] at.front at.last at.fronts at.frees;
      names = names;
      frees = λ k. tt;
      own = λ k n may. names n ∙ may.0;
    }
after_item f i earlier passed at = after_other f i earlier refl passed at

after_all : (f : Profile) (items : List Item) → AreChecked f items → HasLast f items
after_all f [] checked = record { front = []; last = []; same = refl; fronts = tt; names = λ n. refl; frees = λ k. tt; own = λ k n may. may.0 }
after_all f (i ∷ earlier) checked = after_item f i earlier checked.0.passes (after_all f earlier checked.1)

-- In each phase of every plan, the names that a thread frees were asked for by itself or before the phase.
pub every_phase : {text : List ℕ} {plan : Plan} → IsPlanOf text plan → FreeTheirOwn [] (map ops_of (phases_of plan.phases))
every_phase {text} {plan} is =
    let at = after_all is.header.profile is.items (parts_of text is.header is.items is.read).checked in
    subst (FreeTheirOwn []) (sym (is.phases ∙ at.same)) (frees_last [] at.front at.last at.fronts at.frees)

-- ==== How many operations a plan has.

-- ---- the phases have an operation for each item that is one
item_count : (f : Profile) (i : Item) (earlier : List Item) → length (new_ops f i earlier) ≡ (if is_operation i then 1 else 0)
item_count f i earlier = search arith

count_more : (t : Bool) (n : ℕ) → n + (if t then 1 else 0) ≡ (if t then n + 1 else n)
count_more t n = search arith

all_counted : (f : Profile) (items : List Item) → length (ops_in f items) ≡ operations_in items
all_counted f [] = refl
all_counted f (i ∷ earlier) =
    ap (λ (ops : List Op). length ops) (ops_next f i earlier)
    ∙ omega (arith, length-append (ops_in f earlier) (new_ops f i earlier), item_count f i earlier, all_counted f earlier) ∙ count_more (is_operation i) (operations_in earlier)

-- ---- the check of each is that fewer than 1,000,000 stood before it
one_more : (t : Bool) (n : ℕ) → n ≤ 1000000 → (t ≡ true → n < 1000000) → (if t then n + 1 else n) ≤ 1000000
one_more t n before room = search arith

few_items : (f : Profile) (items : List Item) → AreChecked f items → operations_in items ≤ 1000000
few_items f [] checked = omega arith
few_items f (i ∷ earlier) checked = one_more _ _ (few_items f earlier checked.1) (λ is. (counts_within f earlier i is checked.0.passes).few)

-- Every plan has at most 1,000,000 operations.
pub few_operations : {text : List ℕ} {plan : Plan} → IsPlanOf text plan → length (operations_of plan) ≤ 1000000
few_operations {text} {plan} is =
    let f = is.header.profile in
    let few = few_items f is.items (parts_of text is.header is.items is.read).checked in
    let same : operations_of plan ≡ ops_in f is.items = ap all_ops is.phases in
    let count : length (operations_of plan) ≡ operations_in is.items = ap (λ (ops : List Op). length ops) same ∙ all_counted f is.items in
    omega (arith, few, count)
