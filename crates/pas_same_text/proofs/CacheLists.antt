-- Local allocators of a cache, in the text and in a replay: one is looked up, taken out, put at the end, and gives its lowest slot; and which grains the caches have.
use Rattle.std.proofs.Common.{◌≡◌, ℕ, ◌<◌, ◌==◌, Bool, true, false, not, ◌&&◌, ◌||◌, if◌then◌else◌, List, [], ◌∷◌, ◌++◌, Option, Some, inl, inr, refl, ap, sym}
use Rattle.std.proofs.Common.{◌∙◌, subst, arith, eq-eqb, eqb-true, ne_eqb, ◌-◌, ◌≤◌, ◌≢◌, length, None, append-nil, nat_lt, option_to_list, suc, take, zero}
use Rattle.std.proofs.Common.{◌+◌, ◌*◌, ◌⊎◌, All, ◌/◌, map}
use Rattle.pas_cache.specs.Locals.{is_for as is_for_slots}
use Rattle.pas_same_text.{specs.{State.with_cache, Order.operates, Acts.KeepsIndexes}, proofs.Tests.{IsFound, found, passed, any_filtered, filtered_any}}
use Rattle.pas_same_text.proofs.{Tests.on_page, Common.{take_none, nat_tests, same_Some, none-some, All-head, All-tail, list_any-append, eqb-false, false≢true}}
use Rattle.pas_same_text.proofs.Common.{or_cases, or_left, false_from_ne_true, or_right, AllByRecursion, find, flat_map, list_any, filter, is_set, IsLowestSet}
use Rattle.pas_same_text.proofs.Common.{in_run, Slots, IsWithoutSlot, Cached, local_for, others_than, IsLocal, any_covers, covers, Local, Cache, cache_in}
use Rattle.pas_same_text.proofs.Common.{is_for, others, is_cached, IsSameLocal, AreSameLocals, has_number, IsRising, IsSameCache, AreSameCaches, Profile}
use Rattle.pas_same_text.proofs.Common.{IsThread, Caches, with_cache as with_cached, EndedRun, run_of, to_run, class_grains, IsClass, same_truth, View}
use Rattle.pas_same_text.proofs.Common.{start_of, start_at, start_below, Directory, Event, Block, Route, backed_in, sized_entry, Entry, Record, Said, World}
use Rattle.pas_same_text.proofs.Common.{each, shows, says, cache_of, locals_of, log_of, set_cache, set_log, is_unowned, minds, indexes_run, IsTaken, HandsOnOwn}
use Rattle.pas_same_text.proofs.Common.{some_of, deeds, backs, readies, large_of, is_run, deeds_run, serves_pages, gives_up, gives_up_first, gives_first}
use Rattle.pas_same_text.proofs.Common.{fetches, makes_place, serves_class_by, ends, flushes, stops, frees, frees_what, Progress, Act, numbers_from, What}
use Rattle.pas_same_text.proofs.Common.{lowers, are_bare, raises, raises_from, serves, acts_on, Indexes, no_ranges, indexes_after, runs, Raised}
use Rattle.pas_segregated.specs.Masks.{AreStarts}
use Rattle.pas_large.specs.{declared.span.Span.Span, Doors.cut_in}
use Rattle.pas_answers.specs.Indexes.{request_by, after_request, after_operation, with_noted}

-- ---- looked up
pub for_same : (heap class : ℕ) (s : Slots) (l : Local) → IsSameLocal s l → is_for heap class l ≡ is_for_slots heap class s
for_same heap class s l same = ap (λ (h : ℕ). (h == heap) && (l.class == class)) same.heap ∙ ap (λ (c : ℕ). (s.heap == heap) && (c == class)) same.class

-- the one that is found in a list of the same
pub record Finds (s : Slots) (found : Option Local) : Type 0 where
  pub local : Local
  pub is : found ≡ Some local
  pub same : IsSameLocal s local

-- The local allocator that a replay finds for a heap and class is the one that the text finds.
pub found_same : (heap class : ℕ) (slots : List Slots) (locals : List Local) (s : Slots) → AreSameLocals slots locals → local_for heap class slots ≡ Some s
    → Finds s (find (is_for heap class) locals)
found_same heap class [] [] s same is = absurd (none-some s is)
found_same heap class (x ∷ slots) (y ∷ locals) s same is =
    let ih = found_same heap class slots locals s same.1 in search (arith, for_same, same_Some, ih)
found_same heap class slots locals s same is = absurd same

-- ---- taken out
-- The local allocators of other heaps and classes are the same in the text and in the replay.
pub others_same : (heap class : ℕ) (slots : List Slots) (locals : List Local) → AreSameLocals slots locals
    → AreSameLocals (others_than heap class slots) (others heap class locals)
others_same heap class [] [] same = tt
others_same heap class (x ∷ slots) (y ∷ locals) same = search (arith, for_same, others_same heap class slots locals same.1)
others_same heap class slots locals same = absurd same

-- ---- put at the end
pub last_same : (slots : List Slots) (locals : List Local) (s : Slots) (l : Local) → AreSameLocals slots locals → IsSameLocal s l
    → AreSameLocals (slots ++ s ∷ []) (locals ++ l ∷ [])
last_same [] [] s l same one = (one, tt)
last_same (x ∷ slots) (y ∷ locals) s l same one = (same.0, last_same slots locals s l same.1 one)
last_same slots locals s l same one = absurd same

-- ---- the lowest slot
above : (n g : ℕ) (more : List ℕ) → AllByRecursion (λ m. n < m) more → has_number more g ≡ true → n < g
above n g [] all h = absurd (false≢true h)
above n g (m ∷ more) all h = let ih = above n g more all.1 in search (arith, or_cases, eqb-true, ih)

-- the head of the list is the lowest bit that is set
head_lowest : (s : Slots) (n start : ℕ) (more : List ℕ) → ((g : ℕ) → has_number (n ∷ more) g ≡ is_set s.starts g) → IsRising (n ∷ more)
    → IsLowestSet s.starts 0 start → n ≡ start
head_lowest s n start more slots rising lowest = elim (or_cases (n == start) (has_number more start) (slots start ∙ lowest.set)) [
  | inl here ↦ eqb-true n start here
  | inr later ↦
      let lt : n < start = above n start more rising.0 later in
      absurd (false≢true (sym (lowest.lowest n (omega arith) lt) ∙ (sym (slots n) ∙ or_left (n == n) (has_number more n) (eq-eqb n n refl))))
]

rest_at : (n g : ℕ) (more : List ℕ) (t : Bool) → (n == g) ≡ t → AllByRecursion (λ m. n < m) more
    → has_number more g ≡ (not (g == n) && (t || has_number more g))
rest_at n g more true e all =
    let is : n ≡ g = eqb-true n g e in
    let none : has_number more g ≡ false = false_from_ne_true _ (λ h. let lt : n < g = above n g more all h in absurd (omega (arith, is, lt))) in
    none ∙ ap (λ (t : Bool). not t && (true || has_number more g)) (sym (eq-eqb g n (sym is)))
rest_at n g more false e all = search (arith, eqb-false, ne_eqb)

-- its lowest slot is given: the text has it at the head, and the others are left
pub slot_given : (s s' : Slots) (l : Local) (n start : ℕ) (more : List ℕ) → IsSameLocal s l → l.slots ≡ n ∷ more → IsLowestSet s.starts 0 start
    → IsWithoutSlot s s' start → (n ≡ start) × IsSameLocal s' (record l { slots = more })
slot_given s s' l n start more same is lowest without =
    let bits : (x : ℕ) → has_number (n ∷ more) x ≡ is_set s.starts x = λ x. ap (λ (xs : List ℕ). has_number xs x) (sym is) ∙ same.slots x in
    let rising : IsRising (n ∷ more) = subst IsRising is same.rising in
    let head : n ≡ start = head_lowest s n start more bits rising lowest in (
      head,
      search (arith, rest_at),
    )

-- ==== Lists of caches, of which one becomes another.
-- the local allocators in all of them
abbrev pub all_locals : List Cache → List Local
all_locals cs = flat_map (λ c. c.locals) cs

-- A list of caches is as long as before once one of them became another.
pub many_with : (cs : List Cache) (k : ℕ) (new : Cache) → length (with_cache cs k new) ≡ length cs
many_with [] k new = refl
many_with (c ∷ cs) k new = let ih = many_with cs (k - 1) new in grind (arith, ih)

-- ---- the one that changed
-- The cache that was put in a thread's place is what is found there.
pub own_with : (cs : List Cache) (k : ℕ) (new : Cache) → 1 ≤ k → k ≤ length cs → cache_in (with_cache cs k new) k ≡ new
own_with [] k new some few = absurd (omega arith)
own_with (c ∷ cs) k new some few = let ih = own_with cs (k - 1) new in grind (arith, nat_tests, ih)

-- ---- the others
other_with : (cs : List Cache) (j k : ℕ) (new : Cache) → 1 ≤ j → 1 ≤ k → j ≢ k → cache_in (with_cache cs k new) j ≡ cache_in cs j
other_with [] j k new one some ne = refl
other_with (c ∷ cs) j k new one some ne = let ih = other_with cs (j - 1) (k - 1) new in grind (arith, nat_tests, ih)

-- ---- local allocators stay where those of the new cache are those of the old one
-- A cache with the same local allocators in a thread's place leaves the local allocators of all caches as they were.
pub locals_with : (cs : List Cache) (k : ℕ) (new : Cache) → new.locals ≡ (cache_in cs k).locals → all_locals (with_cache cs k new) ≡ all_locals cs
locals_with [] k new is = refl
locals_with (c ∷ cs) k new is = let ih = locals_with cs (k - 1) new in grind (arith, ih)

-- ---- the caches of a replay, of which one becomes another too
pub same_own : (caches : Caches) (k : ℕ) (c : Cached) → with_cached caches k c k ≡ c
same_own caches k c = ap (λ (b : Bool). if b then c else caches k) (eq-eqb k k refl)

-- The text's caches are the replay's again after one thread's cache changed to the same on both sides.
pub same_with : (f : Profile) (caches : Caches) (own : List Cache) (k : ℕ) (c : Cached) (new : Cache) → IsThread f k → k ≤ length own
    → AreSameCaches f caches own → IsSameCache c new → AreSameCaches f (with_cached caches k c) (with_cache own k new)
same_with f caches own k c new of listed same new_same = search (arith, many_with, same_own, own_with, eqb-true, eqb-false, other_with, ne_eqb)

-- A cache that became what it was is as it was.
pub kept_at : (caches : Caches) (j k : ℕ) (t : Bool) → (j == k) ≡ t → caches j ≡ (if t then caches k else caches j)
kept_at caches j k t e = search (arith, eqb-true)

-- The text's caches stay the replay's where a thread's cache is put back as it was.
pub same_kept : (f : Profile) (caches : Caches) (own : List Cache) (k : ℕ) → AreSameCaches f caches own → AreSameCaches f (with_cached caches k (caches k)) own
same_kept f caches own k same = search (arith, kept_at)

-- one that became another twice
pub again_at : (caches : Caches) (j k : ℕ) (c d : Cached) (t : Bool) → (if t then d else (if t then c else caches j)) ≡ (if t then d else caches j)
again_at caches j k c d t = grind arith

-- Where a thread's cache was set twice in the replay, the last one alone counts for the text.
pub same_again : (f : Profile) (caches : Caches) (own : List Cache) (k : ℕ) (c d : Cached) → AreSameCaches f (with_cached (with_cached caches k c) k d) own
    → AreSameCaches f (with_cached caches k d) own
same_again f caches own k c d same = search (arith, again_at)

-- A list of caches in which a thread's own cache is put back is the same list.
pub with_own : (cs : List Cache) (k : ℕ) → with_cache cs k (cache_in cs k) ≡ cs
with_own [] k = refl
with_own (c ∷ cs) k = let ih = with_own cs (k - 1) in grind (arith, ih)

-- ==== WHAT A CACHE NOTES of the runs that ended.
-- At most one run is noted where there is room, and none where there is none.
pub room_for : (noted : List EndedRun) (o : Option EndedRun) (t : Bool) → nat_lt (length noted) 64 ≡ t
    → (if t then noted ++ option_to_list o else noted) ≡ noted ++ take (64 - length noted) (option_to_list o)
room_for noted None true e = ap (λ (xs : List EndedRun). noted ++ xs) (sym (take_none (64 - length noted)))
room_for noted (Some run) true e = let lt : length noted < 64 = grind (arith, nat_tests, e) in one (64 - length noted) (omega (arith, lt))
  where
    one : (n : ℕ) → 1 ≤ n → noted ++ run ∷ [] ≡ noted ++ take n (run ∷ [])
    one zero some = absurd (omega (arith, some))
    one (suc n) some = ap (λ (xs : List EndedRun). noted ++ run ∷ xs) (sym (take_none n))
room_for noted o false e =
    search (arith, nat_tests, append-nil)

-- ==== Which grains the caches have, in the text and in a replay.
-- ---- one local allocator
-- it is of the page, and one of its slots has the grain
abbrev pub has_grain : ℕ → ℕ → Local → Bool
has_grain page b l = (l.page == page) && list_any (λ s. in_run s (class_grains l.class) b) l.slots

module _ (s : Slots) (l : Local) (b : ℕ) (same : IsSameLocal s l) (is : IsClass s.class) (starts : AreStarts s.class s.starts) where
  slot_set : list_any (λ x. in_run x (class_grains l.class) b) l.slots ≡ true → is_set s.starts (start_of s.class b) ≡ true
  slot_set h =
      let o : IsFound l.slots (λ x. in_run x (class_grains l.class) b) = found (λ x. in_run x (class_grains l.class) b) l.slots h in
      let set : is_set s.starts o.number ≡ true = sym (same.slots o.number) ∙ o.there in
      let ends = run_of o.number (class_grains s.class) b (sym (ap (λ (c : ℕ). in_run o.number (class_grains c) b) same.class) ∙ o.so) in
      ap (is_set s.starts) (start_at s.class o.number b (starts o.number set) ends.0 ends.1) ∙ set

-- ---- those of a cache
pub grains_same : (f : Profile) (v : View) (slots : List Slots) (locals : List Local) (page b : ℕ) → b < 256 → AreSameLocals slots locals
    → All (IsLocal f v) slots
    → list_any (has_grain page b) locals ≡ any_covers slots (256 * page + b)
grains_same f v [] [] page b small same known = refl
grains_same f v (s ∷ slots) (l ∷ locals) page b small same known =
    let at : IsLocal f v s = All-head (IsLocal f v) s slots known in
    ap (λ (t : Bool). t || list_any (has_grain page b) locals)
    (let slots = same_truth _ _ (slot_set s l b same.0 at.class at.starts) (λ h. search (arith, start_below, to_run, passed)) in
    ap (λ (q : ℕ). (q == page) && list_any (λ x. in_run x (class_grains l.class) b) l.slots) same.0.page ∙ ap (λ (t : Bool). (s.page == page) && t) slots
    ∙ ap (λ (q : ℕ). (s.page == q) && is_set s.starts (start_of s.class b)) (sym (on_page page b small))
    ∙ ap (λ (x : ℕ). (s.page == (256 * page + b) / 256) && is_set s.starts (start_of s.class x)) (omega (arith, small)))
    ∙ ap (λ (t : Bool). covers s (256 * page + b) || t) (grains_same f v slots locals page b small same.1 (All-tail (IsLocal f v) s slots known))
grains_same f v slots locals page b small same known = absurd same

-- ---- all caches
pub record IsOfCache (cs : List Cache) (p : Local → Bool) : Type 0 where
  pub k : ℕ
  pub first : 1 ≤ k
  pub last : k ≤ length cs
  pub so : list_any p (cache_in cs k).locals ≡ true

of_cache_at : (c : Cache) (cs : List Cache) (p : Local → Bool) → (list_any p (all_locals cs) ≡ true → IsOfCache cs p)
    → (list_any p c.locals ≡ true) ⊎ (list_any p (all_locals cs) ≡ true) → IsOfCache (c ∷ cs) p
of_cache_at c cs p rest (inl so) = record { k = 1; first = omega arith; last = omega arith; so = so }
of_cache_at c cs p rest (inr so) =
    let o = rest so in
    let last : o.k + 1 ≤ length (c ∷ cs) = let le : o.k ≤ length cs = o.last in omega (arith, le) in
    let first : 1 ≤ o.k + 1 = omega arith in
    record {
      k = o.k + 1;
      first = first;
      last = last;
      so = ap (λ (x : Cache). list_any p x.locals) (let it : cache_in (c ∷ cs) (o.k + 1) ≡ cache_in cs o.k = search (arith, ne_eqb) in it) ∙ o.so;
    }

-- A local allocator among those of all caches is one of some thread's cache.
pub of_cache : (cs : List Cache) (p : Local → Bool) → list_any p (all_locals cs) ≡ true → IsOfCache cs p
of_cache [] p h = absurd (false≢true h)
of_cache (c ∷ cs) p h = of_cache_at c cs p (of_cache cs p) (or_cases _ _ (sym (list_any-append p c.locals (all_locals cs)) ∙ h))

-- A local allocator of a thread's cache is among those of all caches.
pub in_all : (cs : List Cache) (k : ℕ) (p : Local → Bool) → list_any p (cache_in cs k).locals ≡ true → list_any p (all_locals cs) ≡ true
in_all [] k p so = so
in_all (c ∷ cs) k p so = let ih = in_all cs (k - 1) p in search (arith, list_any-append, or_left, or_right, ih)

-- ---- of a page
-- the caches have the grain of the page, where a local allocator in them does
pub cached_any : (cs : List Cache) (page b : ℕ) → is_cached (filter (λ l. l.page == page) (all_locals cs)) b ≡ true
    → list_any (has_grain page b) (all_locals cs) ≡ true
cached_any cs page b h = any_filtered (λ l. list_any (λ s. in_run s (class_grains l.class) b) l.slots) (λ l. l.page == page) (all_locals cs) h

-- A grain that some cache's slots have is cached on its page.
pub any_cached : (cs : List Cache) (page b : ℕ) → list_any (has_grain page b) (all_locals cs) ≡ true
    → is_cached (filter (λ l. l.page == page) (all_locals cs)) b ≡ true
any_cached cs page b h = filtered_any (λ l. list_any (λ s. in_run s (class_grains l.class) b) l.slots) (λ l. l.page == page) (all_locals cs) h

-- THE INDEXES of the text are those of a replay. First: what changes no index and no guard, and how many caches there are.

-- ---- what stays
-- the indexes, the guards that are up, and the number of caches
abbrev pub Still : Type 0
Still = List (List Span) × List Raised × ℕ

abbrev pub still : World → Still
still w = (w.indexes, w.guards, length w.caches)

-- With indexes and guards the same when taken together, the indexes are the same.
pub same_indexes : (w v : World) → still v ≡ still w → v.indexes ≡ w.indexes
same_indexes w v is = ap (λ (s : Still). s.0) is

-- With indexes and guards the same when taken together, the guards that are up are the same.
pub same_guards : (w v : World) → still v ≡ still w → v.guards ≡ w.guards
same_guards w v is = ap (λ (s : Still). s.1) is

pub same_many : (w v : World) → still v ≡ still w → length v.caches ≡ length w.caches
same_many w v is = ap (λ (s : Still). s.2) is

-- a cache becomes another
cache_keeps : (k : ℕ) (new : Cache) (w : World) → still (set_cache k new w) ≡ still w
cache_keeps k new w = ap (λ (n : ℕ). let s : Still = (w.indexes, w.guards, n) in s) (many_with w.caches k new)

-- What holds of both ways holds of the one that is chosen.
either : (t : Bool) (v u : World) (value : Still) → still v ≡ value → still u ≡ value → still (if t then v else u) ≡ value
either t v u value one other = search arith

-- What keeps indexes and guards each time keeps them when done for a whole list.
pub each_keeps : {A : Type 0} (does : A → World → World) (xs : List A) → ((x : A) (w : World) → still (does x w) ≡ still w) → (w : World)
    → still (each does xs w) ≡ still w
each_keeps does [] keeps w = refl
each_keeps does (x ∷ xs) keeps w = each_keeps does xs keeps (does x w) ∙ keeps x w

-- Minding a page keeps indexes and guards.
pub minds_keep : (page : ℕ) (w : World) → still (minds page w) ≡ still w
minds_keep page w = search (arith, either)

-- A flush keeps indexes and guards.
pub flushes_keep : (f : Profile) (k : ℕ) (w : World) → still (flushes f k w) ≡ still w
flushes_keep f k w = each_keeps (ends f k) (log_of w k) (λ entry w. search (arith, either, each_keeps, minds_keep, cache_keeps)) (set_log k [] w)
    ∙ cache_keeps k (record (cache_of w k) { log = [] }) w

-- stops
pub given_up_keeps : (k : ℕ) (l : Local) (w : World) → still (gives_up k l w) ≡ still w
given_up_keeps k l w = simp (minds_keep, cache_keeps)

-- A stop keeps indexes and guards.
pub stops_keep : (f : Profile) (k : ℕ) (w : World) → still (stops f k w) ≡ still w
stops_keep f k w = each_keeps (gives_up k) (locals_of (flushes f k w) k) (given_up_keeps k) (flushes f k w) ∙ flushes_keep f k w

-- A stop where a thread is idle keeps indexes and guards, and so does none.
idle_keeps : (f : Profile) (t : Bool) (k : ℕ) (w : World) → still (if t then says (Record.Said 0 (Said.Stopped k)) (stops f k w) else w) ≡ still w
idle_keeps f t k w = either t (says (Record.Said 0 (Said.Stopped k)) (stops f k w)) w (still w) (stops_keep f k w) refl

-- A free keeps indexes and guards.
frees_keep : (f : Profile) (k : ℕ) (entry : Entry) (w : World) → still (frees f k entry w) ≡ still w
frees_keep f k entry w = search (arith, either, cache_keeps, flushes_keep)

-- A free by a name of the trace keeps indexes and guards, whatever the name stands for.
what_keeps : (f : Profile) (k name room : ℕ) (meant : Option (Option Block)) (w : World) → still (frees_what f k name room meant w) ≡ still w
what_keeps f k name room (Some (Some block)) w = frees_keep f k (sized_entry block.name room) w
what_keeps f k name room meant w = refl

-- ---- requests
deeds_keep : (k : ℕ) (d : Directory) (page : ℕ) (w : World) → still (deeds k d page w) ≡ still w
deeds_keep k d page w = either (is_unowned w page) (shows (Event.Deed k page d) w) w (still w) refl refl

-- A page that gets memory keeps indexes and guards.
pub backs_keep : (k page : ℕ) (w : World) → still (backs k page w) ≡ still w
backs_keep k page w = either (backed_in w.events page) w (shows (Event.Back k page) w) (still w) refl refl

readies_keep : (k : ℕ) (d : Directory) (page : ℕ) (w : World) → still (readies k d page w) ≡ still w
readies_keep k d page w = backs_keep k page (deeds k d page w) ∙ deeds_keep k d page w

first_keeps : (k name : ℕ) (l : Local) (slots : List ℕ) (w : World) → still (gives_first k name l slots w) ≡ still w
first_keeps k name l slots w = search (arith, cache_keeps)

fetches_keep : (f : Profile) (k name heap class : ℕ) (w : World) → still (fetches f k name heap class w) ≡ still w
fetches_keep f k name heap class w = search (arith, first_keeps, readies_keep)

pub first_up_keeps : (k : ℕ) (ls : List Local) (w : World) → still (gives_up_first k ls w) ≡ still w
first_up_keeps k ls w = search (arith, either, given_up_keeps)

-- A request of a class keeps indexes and guards.
class_keeps : (f : Profile) (k name heap class : ℕ) (own : Option Local) (w : World) → still (serves_class_by f k name heap class own w) ≡ still w
class_keeps f k name heap class None w = fetches_keep f k name heap class (makes_place k w) ∙ first_up_keeps k (locals_of w k) w
class_keeps f k name heap class (Some l) w =
    either (some_of l.slots) _ _ (still w) (first_keeps k name l l.slots w) (fetches_keep f k name heap class (gives_up k l w) ∙ given_up_keeps k l w)

-- ---- a pass
-- ==== THE INDEXES of a state of the text, which each act changes as it changes those of a replay, and how many caches it has, which no act changes.
either_many : (t : Bool) (v u : World) (n : ℕ) → length v.caches ≡ n → length u.caches ≡ n → length (if t then v else u).caches ≡ n
either_many t v u n one other = search arith

-- ==== REQUESTS AND OPERATIONS change what a replay's change of the indexes, and neither a guard nor how many caches there are.
-- the guards and the caches of this state, with these indexes
abbrev pub with_indexes : Indexes → World → Still
with_indexes indexes w = (indexes, w.guards, length w.caches)

pages_still : (f : Profile) (k name heap n : ℕ) (w : World) → still (serves_pages f k name heap n w) ≡ with_indexes (cut_in w.indexes heap n) w
pages_still f k name heap n w = search (arith, each_keeps, backs_keep, deeds_keep)

-- a request takes out what was named for it
pub serves_still : (f : Profile) (k name heap : ℕ) (route : Route) (room align : ℕ) (w : World)
    → still (serves f k name heap route room align w) ≡ with_indexes (after_request route heap (room / 4096) w.indexes) w
serves_still f k name heap a room align w = search (arith, class_keeps, readies_keep, pages_still)

-- A request changes the indexes of the text as it changes those of a replay.
pub request_indexes : (f : Profile) (k name heap : ℕ) (route : Route) (room align : ℕ) (w : World)
    → (serves f k name heap route room align w).indexes ≡ after_request route heap (room / 4096) w.indexes
request_indexes f k name heap route room align w = ap (λ (s : Still). s.0) (serves_still f k name heap route room align w)

-- ---- a reallocation
-- ---- an operation
operation_still : (f : Profile) (k : ℕ) (what : What) (w : World)
    → still (operates f k what w) ≡ with_indexes (after_operation f (request_by w.names what) w.indexes) w
operation_still f k what w = search (arith, serves_still, what_keeps, frees_keep, cache_keeps, either, flushes_keep, stops_keep)

-- ---- what was noted comes to the indexes
noted_still : (runs : List EndedRun) (w : World) → still (each indexes_run runs w) ≡ with_indexes (with_noted w.indexes runs) w
noted_still [] w = refl
noted_still (run ∷ runs) w = noted_still runs (indexes_run run w)

-- ==== GUARDS
-- they go down: the indexes, and how many caches there are
abbrev Held : Type 0
Held = Indexes × ℕ

abbrev held : World → Held
held w = (w.indexes, length w.caches)

all_lowered : (gs : List Raised) (w : World) → held (each lowers gs w) ≡ held w
all_lowered [] w = refl
all_lowered (g ∷ gs) w = search (arith, minds_keep, all_lowered gs (lowers g w))

-- Guards that are lowered change no index.
pub all_lowered_keep : (gs : List Raised) (w : World) → (each lowers gs w).indexes ≡ w.indexes
all_lowered_keep gs w = ap (λ (h : Held). h.0) (all_lowered gs w)

all_lowered_many : (gs : List Raised) (w : World) → length (each lowers gs w).caches ≡ length w.caches
all_lowered_many gs w = ap (λ (h : Held). h.1) (all_lowered gs w)

-- ---- a guarded request
raises_many : (keeper name heap first n : ℕ) (w : World) → length (raises keeper name heap first n w).caches ≡ length w.caches
raises_many keeper name heap first n w =
    let pages : List ℕ = numbers_from (first + 1) n in
    same_many w (each (backs keeper) pages w) (each_keeps (backs keeper) pages (backs_keep keeper) w)

raised_many : (f : Profile) (keeper k name heap n : ℕ) (runs : List ℕ) (w : World)
    → length (raises_from f keeper k name heap n runs w).caches ≡ length w.caches
raised_many f keeper k name heap n [] w = ap (λ (s : Still). s.2) (pages_still f k name heap n w)
raised_many f keeper k name heap n (p ∷ ps) w =
    let v : World = deeds_run keeper heap p (n + 2) w in
    let deeded : length v.caches ≡ length w.caches =
    same_many w v (each_keeps (deeds keeper (large_of heap)) (numbers_from p (n + 2)) (deeds_keep keeper (large_of heap)) w) in
    let up : World = raises keeper name heap p n v in
    let later : World = raises_from f keeper k name heap n ps v in
    either_many (is_run f w heap (n + 2) p) (if are_bare w p n then up else later) (raises_from f keeper k name heap n ps w) (length w.caches)
    (either_many (are_bare w p n) up later (length w.caches) (raises_many keeper name heap p n v ∙ deeded) (raised_many f keeper k name heap n ps v ∙ deeded))
    (raised_many f keeper k name heap n ps w)

-- ==== AN ACT
pub act_many : (f : Profile) (act : Act) (w : World) → length (acts_on f act w).caches ≡ length w.caches
act_many f act w = search (arith, many_with, operation_still, raised_many, all_lowered_many, noted_still, same_many, each_keeps, idle_keeps, stops_keep)

text_indexes : (f : Profile) (act : Act) (p p' : Progress) (w : World) → HandsOnOwn f act → (taken : IsTaken f act p p' w)
    → (acts_on f act w).indexes ≡ indexes_after f act p p' taken.advances w.indexes
text_indexes f act p p' w own taken = search (arith, operation_still, noted_still, same_indexes, each_keeps, idle_keeps, stops_keep, all_lowered_keep)

-- Each act that is no guarded request changes the indexes of the text as those of a replay.
pub indexes_kept : (f : Profile) (act : Act) → KeepsIndexes f act
indexes_kept f act p p' w indexes own taken is = text_indexes f act p p' w own taken ∙ ap (λ (ix : Indexes). indexes_after f act p p' taken.advances ix) is

-- ---- the start
pub none_yet : (n from : ℕ) → map (λ (h : ℕ). let none : List Span = [] in none) (numbers_from from n) ≡ no_ranges n
none_yet zero from = refl
none_yet (suc n) from = ap (λ (ix : Indexes). [] ∷ ix) (none_yet n (from + 1))
