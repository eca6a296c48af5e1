-- ONE LOCAL ALLOCATOR GOES, in the text alone: wherever it stands in its cache.
use Rattle.std.proofs.Common.{arith, ◌≡◌, ℕ, Bool, true, false, not, ◌||◌, if◌then◌else◌, List, [], ◌∷◌, Some, refl, eqb-true, ◌≤◌, length, ◌==◌, ◌++◌, reverse}
use Rattle.std.proofs.Common.{inl, inr, ◌&&◌, ap, sym, ◌∙◌, subst, append-nil, eq-eqb, ◌+◌, ◌/◌, ◌%◌, ◌<◌, nat_le, cond, All, Option, None, true≢false}
use Rattle.std.proofs.lemmas.List.Sums.{sum_by-cons}
use Rattle.pas_same_text.proofs.{GivenBack.{OnlyHints, all_only_hints}, Flushes.visible_steps, StopActs.{slot_room, read_room}, CachedSlots.found_passes}
use Rattle.pas_same_text.proofs.{CacheLists.{same_guards, given_up_keeps, same_with, same_kept, Finds, for_same, found_same, others_same}, Tests.any_weaker}
use Rattle.pas_same_text.proofs.{Tests.{any_filtered, and_second, and_first}, StopSteps.{AreUnique, one_returns, unique_of, IsMarkedBy, one_marked, one_hints}}
use Rattle.pas_same_text.proofs.{StopSteps.no_other_counted, FreeGrains.{guards_as, still_unguarded, cached_held, outer_held, held_by, never_both}}
use Rattle.pas_same_text.proofs.{FreeGrains.holder_thread, RestingPages.{is_open, IsGivenBack, covered_not_held, free_left, given_pages}, StepMarks.hint_marks}
use Rattle.pas_same_text.proofs.{StepMarks.{offer_marks, epoch_stays_by}, Common.{AreSameCaches, false≢true, list_any, find, IsPage, IsValid, IsDirectoryOf}}
use Rattle.pas_same_text.proofs.Common.{Profile, Directory, Event, Local, Cache, World, cache_of, locals_of, set_locals, is_for, others, gives_up, is_of}
use Rattle.pas_same_text.proofs.Common.{IsBetween, free_bit, live_in, Only, part, visible, holds, Made, only_within, events_same, one_holder, freeing, home_of}
use Rattle.pas_same_text.proofs.Common.{StopStepsAt, Slots, Cached, releasing, IsLocal, covers, any_covers, IsThread, Progress, with_steps, Record, IsSame}
use Rattle.pas_same_text.proofs.Common.{HasSame, IsSameLocal, AreSameLocals, lives_in, nat_tests, All-head, All-tail, same_Some, none-some, count_by, start_of}
use Rattle.pas_same_text.proofs.Common.{LeavesWhere, start_below, StopsFirst, local_for, others_than, gives_up_first, makes_place}
use Rattle.pas_bits.specs.Masks.{IsEmpty}
use Rattle.pas_cache.specs.{Serves.MakesPlace, Locals.is_for as is_for_slots}

-- ---- the others of a cache
any_less : (p : Local → Bool) (heap class : ℕ) (ls : List Local) → list_any p (others heap class ls) ≡ true → list_any p ls ≡ true
any_less p heap class ls h =
    any_weaker (λ x. not (is_for heap class x) && p x) p ls (λ x both. and_second (not (is_for heap class x)) (p x) both) (any_filtered p _ ls h)

-- .. are all but the one that is found
other_next : (p : Local → Bool) (heap class : ℕ) (x l : Local) (xs : List Local) (t : Bool) → is_for heap class x ≡ t → others x.heap x.class xs ≡ xs
    → (if t then Some x else find (is_for heap class) xs) ≡ Some l → p l ≡ false
    → (find (is_for heap class) xs ≡ Some l → list_any p xs ≡ true → list_any p (others heap class xs) ≡ true) → (p x || list_any p xs) ≡ true
    → list_any p (if not t then x ∷ others heap class xs else others heap class xs) ≡ true
other_next p heap class x l xs t e rest found h more y = search (arith, eqb-true)

any_other : (p : Local → Bool) (heap class : ℕ) (l : Local) (ls : List Local) → AreUnique ls → find (is_for heap class) ls ≡ Some l → p l ≡ false
    → list_any p ls ≡ true → list_any p (others heap class ls) ≡ true
any_other p heap class l [] unique found none h = absurd (false≢true h)
any_other p heap class l (x ∷ xs) unique found none h =
    other_next p heap class x l xs (is_for heap class x) refl unique.0 found none (λ later any. any_other p heap class l xs unique.1 later none any) h

-- ---- it goes
module _ (f : Profile) (k : ℕ) (l : Local) (w : World) (unique : AreUnique (locals_of w k)) (found : find (is_for l.heap l.class) (locals_of w k) ≡ Some l)
    (page_of : IsPage f l.page) where
  abbrev pub left : Cache
  left = record (cache_of w k) { locals = others l.heap l.class (locals_of w k) }

  abbrev bare : World
  bare = set_locals k (others l.heap l.class (locals_of w k)) w

-- ==== ONE LOCAL ALLOCATOR OF A CACHE IS STOPPED, or left where it has no slot: the text gives it up.
-- the replay after its steps, with the local allocators that are left
abbrev pub up_to : Progress → ℕ → List Made → List Slots → Progress
up_to p k steps fewer = with_steps p k steps (record (p.caches k) { locals = fewer })

-- Thread k, at rest, stopped the local allocator s of its cache by these steps, which is l in the text, and the only one of its heap and class there. These are
-- left, and none of them has a grain of it.
pub record IsStopped (f : Profile) (k : ℕ) (p : Progress) (w : World) (s : Slots) (l : Local) (fewer : List Slots) (steps : List Made) : Type 0 where
  pub valid : IsValid f
  pub thread : IsThread f k
  pub listed : k ≤ length w.caches
  pub before : IsBetween f p
  pub same : IsSame f p w
  pub order : StopStepsAt (home_of s) s steps
  pub kinds : Only releasing steps
  pub local : IsSameLocal s l
  pub found : find (is_for l.heap l.class) (locals_of w k) ≡ Some l
  pub known : IsLocal f (part k p.list) s
  pub in_cache : (g : ℕ) → covers s g ≡ true → any_covers (p.caches k).locals g ≡ true
  pub fewer_same : AreSameLocals fewer (others l.heap l.class (locals_of w k))
  pub gone : (g : ℕ) → covers s g ≡ true → any_covers fewer g ≡ false
  pub after : IsBetween f (up_to p k steps fewer)

module _ (f : Profile) (k : ℕ) (p : Progress) (w : World) (s : Slots) (l : Local) (fewer : List Slots) (steps : List Made)
    (o : IsStopped f k p w s l fewer steps) where
  abbrev cached_one : Cached
  cached_one = p.caches k

  abbrev c1 : Cached
  c1 = record cached_one { locals = fewer }

  abbrev p1 : Progress
  p1 = up_to p k steps fewer

  abbrev v : World
  v = gives_up k l w

  -- The text has one local allocator a class at most.
  unique : AreUnique (locals_of w k)
  unique = unique_of cached_one.locals (locals_of w k) (o.same.caches.each k o.thread).locals (o.before.rest.working k o.thread).locals.apart.one_each

  page_of : IsPage f l.page
  page_of = subst (IsPage f) (sym o.local.page) o.known.page

  -- The steps put grains back and return rights alone.
  freed : Only freeing steps
  freed = only_within releasing freeing steps refl o.kinds

  only : OnlyHints (bare f k l w unique o.found page_of) v
  only = all_only_hints (l.page ∷ []) (bare f k l w unique o.found page_of)

  -- ---- events and caches
  -- They make no event.
  shown : visible p1.list ≡ visible p.list
  shown = cc (visible_steps k steps p.list, append-nil steps, events_same releasing refl k (part k p.list) steps [] o.kinds)

  -- Afterwards the replay has what the text has.
  has : HasSame f p1 v
  has =
      let live = only.live ∙ (o.same.pages.live ∙ ap lives_in (sym only.events)) in
      let caches : AreSameCaches f p1.caches v.caches =
      rw only.caches (same_with f p.caches w.caches k c1 (left f k l w unique o.found page_of) o.thread o.listed o.same.caches
      (let was = o.same.caches.each k o.thread in record { locals = o.fewer_same; log = was.log; noted = was.noted; idle_since = was.idle_since })) in
      assumption (only.events ∙ (o.same.pages.events ∙ sym shown), live, caches, guards_as p.books w v (same_guards w v (given_up_keeps k l w)) o.same.guards)

  -- ---- a grain of it is held by nobody then
  -- Nobody holds a grain that the stopped one covered.
  nobody : (j g : ℕ) → covers s g ≡ true → holds (part j p1.list) g ≡ true → ⊥
  nobody j g own held =
      let held_then : holds (part k p.list) g ≡ true = cached_held f p o.before k g o.thread (o.in_cache g own) in
      elim (held_by f p1 o.after j g held) [
        | inl cached ↦
            let was : ((j == k) ≡ false) × (any_covers (p.caches j).locals g ≡ true) = search (arith, false≢true) in
            false≢true (sym was.0 ∙ one_holder f p.list o.valid o.before.legal j k g (cached_held f p o.before j g (holder_thread f p1 o.after j g held) was.1) held_then)
        | inr outer ↦
            search (arith, eqb-true, one_holder, outer_held, never_both)
      ]

  -- ---- why its page is offered
  slots_free : (g : ℕ) → covers s g ≡ true → free_bit p1.list g ≡ true
  slots_free g covered =
      let held : holds (part k p.list) g ≡ true = cached_held f p o.before k g o.thread (o.in_cache g covered) in
      free_left f p1.list o.valid o.after.legal g
      (λ j now. nobody j g covered now)
      (λ a b lives of_it. covered_not_held f p.list o.valid o.before.legal g a b (ap (λ (es : List Event). live_in es a) (sym shown) ∙ lives) of_it k held)

  marked_room : (q : ℕ) (d : Directory) → IsDirectoryOf f d → is_of v d q ≡ true → IsMarkedBy s q steps → is_open v d q ≡ true
  marked_room q d of is m = elim m.room [
    | inl some ↦ slot_room f k p steps c1 v o.valid o.before o.after has freed s o.known slots_free q d of is m.page some
    | inr read ↦ read_room f k p steps c1 v o.valid o.before o.after has freed s o.known q d of is m.page read
  ]

  -- The cached slots were given back.
  given : IsGivenBack f k p.list w steps v
  given = record {
    pages = l.page ∷ [];
    returns = one_returns f k l w page_of (λ p h. any_less p l.heap l.class _ h)
        (λ p none h. any_other p l.heap l.class l (locals_of w k) unique o.found none h);
    kinds = freed;
    hints = one_hints s steps o.order;
    marks = λ q of hint. cc (eq-eqb l.page q (o.local.page ∙ (one_marked s q steps o.known.class o.order (hint_marks q steps hint)).page));
    rooms = λ q d of is offer. marked_room q d of is (one_marked s q steps o.known.class o.order (offer_marks q steps offer));
    guarded = λ q none. still_unguarded w v q (same_guards w v (given_up_keeps k l w)) none;
  }

  -- The text in which a stopped local allocator is given up is the replay's state after the stop.
  pub given_up_same : IsSame f p1 v
  given_up_same =
      let pages = given_pages f k p.list p1 w v steps o.valid o.same.pages refl o.after has given in
      let records = o.same.records ∙ ap (λ (rs : List Record). reverse rs) (sym only.records) in
      let epoch = only.epoch ∙ (o.same.epoch ∙ sym (epoch_stays_by freeing refl k steps p.list freed)) in
      assumption (pages, records, epoch, only.names ∙ o.same.names, only.read ∙ o.same.read, has)

-- PLACE IS MADE in a cache for one local allocator more: the spent one of its heap and class goes, or where there is none and the cache is full, the one used
-- longest ago.

-- ---- lists of local allocators
-- Where the replay's cache has no local allocator of a heap and class, the text's has none.
pub none_same : (heap class : ℕ) (slots : List Slots) (ls : List Local) → AreSameLocals slots ls → local_for heap class slots ≡ None
    → find (is_for heap class) ls ≡ None
none_same heap class [] [] same none = refl
none_same heap class (s ∷ slots) (l ∷ ls) same none = let ih = none_same heap class slots ls same.1 in search (arith, for_same, ih)
none_same heap class slots ls same none = absurd same

-- A cache without a local allocator of a heap and class loses nothing when those of it are left out.
pub all_left : (heap class : ℕ) (slots : List Slots) → local_for heap class slots ≡ None → others_than heap class slots ≡ slots
all_left heap class [] none = refl
all_left heap class (s ∷ slots) none = let ih = all_left heap class slots in grind (arith, ih)

-- Leaving out those of a heap and class makes no list of local allocators longer.
pub most_left : (heap class : ℕ) (slots : List Slots) → length (others_than heap class slots) ≤ length slots
most_left heap class [] = omega arith
most_left heap class (s ∷ slots) = search (arith, most_left heap class slots)

fewer_left : (heap class : ℕ) (slots : List Slots) (x : Slots) → local_for heap class slots ≡ Some x → length (others_than heap class slots) < length slots
fewer_left heap class [] x is = absurd (none-some x is)
fewer_left heap class (s ∷ slots) x is = let ih = fewer_left heap class slots x in let most = most_left heap class slots in grind (arith, ih, most)

-- What is known of all local allocators is known of the one that is found.
pub known_found : (P : Slots → Type 0) (heap class : ℕ) (slots : List Slots) (x : Slots) → All P slots → local_for heap class slots ≡ Some x → P x
known_found P heap class [] x all is = absurd (none-some x is)
known_found P heap class (s ∷ slots) x all is =
    let ih = known_found P heap class slots x (All-tail P s slots all) in search (arith, All-head, same_Some, ih)

long_same : (slots : List Slots) (ls : List Local) → AreSameLocals slots ls → length ls ≡ length slots
long_same [] [] same = refl
long_same (s ∷ slots) (l ∷ ls) same = let rest = long_same slots ls same.1 in omega (arith, rest)
long_same slots ls same = absurd same

-- a grain of the first is of no other
none_counted : (g : ℕ) (slots : List Slots) → count_by (λ x. covers x g) slots ≤ 0 → any_covers slots g ≡ false
none_counted g [] none = refl
none_counted g (s ∷ slots) none = let ih = none_counted g slots in let all = sum_by-cons (λ x. cond (covers x g) 1 0) s slots in grind (arith, ih, all)

-- ---- what the text does
abbrev pub placed_by : ℕ → Option Local → World → World
placed_by k None w = makes_place k w
placed_by k (Some l) w = gives_up k l w

module _ (f : Profile) (k : ℕ) (p : Progress) (w : World) (valid : IsValid f) (thread : IsThread f k) (listed : k ≤ length w.caches) (before : IsBetween f p)
    (same : IsSame f p w) where
  -- ---- the oldest goes where the cache is full
  oldest_gone : (slots : List Slots) (ls : List Local) (fewer : List Slots) (steps : List Made) → (p.caches k).locals ≡ slots → locals_of w k ≡ ls
      → AreSameLocals slots ls → (t : Bool) → nat_le 32 (length slots) ≡ t → StopsFirst t slots fewer steps → Only releasing steps
      → IsBetween f (up_to p k steps fewer) → IsSame f (up_to p k steps fewer) (gives_up_first k ls w)
  oldest_gone [] [] fewer steps own text locals t full h kinds after = rw ((h.0 ∙ sym own), h.1) (assumption (same_kept f p.caches w.caches k same.caches))
  oldest_gone (s ∷ slots) (l ∷ ls) fewer steps own text locals false full h kinds after =
      rw (ap (nat_le 32) (long_same (s ∷ slots) (l ∷ ls) locals) ∙ full) (rw ((h.0 ∙ sym own), h.1) (assumption (same_kept f p.caches w.caches k same.caches)))
  oldest_gone (s ∷ slots) (l ∷ ls) fewer steps own text locals true full h kinds after =
      let rest = (before.rest.working k thread).locals in
      let unique : AreUnique (l ∷ ls) = unique_of (s ∷ slots) (l ∷ ls) locals (rw own at rest.apart.one_each) in
      let of_own : is_for l.heap l.class l ≡ true = ap (λ (u : Bool). u && (l.class == l.class)) (eq-eqb l.heap l.heap refl) ∙ eq-eqb l.class l.class refl in
      rw (ap (nat_le 32) (long_same (s ∷ slots) (l ∷ ls) locals) ∙ full) (given_up_same f k p w s l fewer steps record {
        valid = valid;
        thread = thread;
        listed = listed;
        before = before;
        same = same;
        order = h.1;
        kinds = kinds;
        local = locals.0;
        found = ap (find (is_for l.heap l.class)) text ∙ ap (λ (u : Bool). if u then Some l else find (is_for l.heap l.class) ls) of_own;
        known = All-head (IsLocal f (part k p.list)) s slots (subst (All (IsLocal f (part k p.list))) own rest.known);
        in_cache = λ g h. ap (λ (xs : List Slots). any_covers xs g) own ∙ ap (λ (u : Bool). u || any_covers slots g) h;
        fewer_same = rw (h.0, text, (ap (λ (u : Bool). if not u then l ∷ others l.heap l.class ls else others l.heap l.class ls) of_own ∙ unique.0)) locals.1;
        gone = λ g mine. rw h.0 (none_counted g slots (no_other_counted (count_by (λ x. covers x g) slots) (covers s g) mine
            (subst (λ (n : ℕ). n ≤ 1) (sum_by-cons (λ x. cond (covers x g) 1 0) s slots) (rw own at (rest.apart.grains g)))));
        after = after;
      })
  oldest_gone slots ls fewer steps own text locals t full h kinds after = absurd locals

-- where there is place, none is stopped
stops_none : (kept fewer : List Slots) (steps : List Made) (t : Bool) → t ≡ false → StopsFirst t kept fewer steps → (fewer ≡ kept) × (steps ≡ [])
stops_none kept fewer steps t place h = search (arith, true≢false)

module _ (f : Profile) (k heap class : ℕ) (p : Progress) (w : World) (fewer : List Slots) (steps : List Made) (valid : IsValid f) (thread : IsThread f k)
    (listed : k ≤ length w.caches) (before : IsBetween f p) (same : IsSame f p w) (place : MakesPlace heap class (p.caches k).locals fewer steps)
    (kinds : Only releasing steps)
    (after : IsBetween f (up_to p k steps fewer)) where
  abbrev c : Cached
  c = p.caches k

  abbrev found_text : Option Local
  found_text = find (is_for heap class) (locals_of w k)

  both_same : AreSameLocals c.locals (locals_of w k)
  both_same = (same.caches.each k thread).locals

  -- ---- there is none of the heap and class
  none_gone : local_for heap class c.locals ≡ None → place.spent ≡ [] → IsSame f (up_to p k steps fewer) (placed_by k found_text w)
  none_gone none h =
      search (arith, all_left, append-nil, none_same, both_same, oldest_gone)

  -- ---- there is one, which is spent
  module _ (s : Slots) (is : local_for heap class c.locals ≡ Some s) (empty : IsEmpty s.starts) (leaves : LeavesWhere s.right s.page (home_of s) place.spent)
    where
      -- The local allocator that goes is the one that the text finds.
      found : Finds s found_text
      found = found_same heap class c.locals (locals_of w k) s both_same is

      -- It is one that may go.
      passes : is_for_slots heap class s ≡ true
      passes = found_passes heap class c.locals s is

      left_over : (fewer ≡ place.kept) × (place.stopped ≡ [])
      left_over =
          let long = ap (λ (xs : List Slots). length xs) place.taken.others in
          let lt : length place.kept < 32 = omega (arith, (before.rest.working k thread).few, (fewer_left heap class c.locals s is), long) in
          stops_none place.kept fewer place.stopped (nat_le 32 (length place.kept)) (grind (arith, nat_tests, lt)) place.shortened.first

      steps_are : steps ≡ place.spent
      steps_are = place.steps_are ∙ ap (λ (ms : List Made). ms ++ place.spent) left_over.1

      -- It is one of the actor's.
      known : IsLocal f (part k p.list) s
      known = known_found (IsLocal f (part k p.list)) heap class c.locals s (before.rest.working k thread).locals.known is

      start_small : (b : ℕ) → b < 256 → start_of s.class b < 256
      start_small b small = let low = (start_below s.class b known.class).0 in omega (arith, low, small)

      -- The steps are those of a stop.
      order : StopStepsAt (home_of s) s steps
      order = subst (StopStepsAt (home_of s) s) (sym steps_are) (record {
        mask = s.starts;
        grains = λ g small. empty g small ∙ sym (empty (start_of s.class g) (start_small g small));
        back = [];
        puts = inl (empty, refl);
        left = place.spent;
        leaves = leaves;
        steps_are = sym (append-nil place.spent);
      })

      -- It covers no grain any more.
      never : (g : ℕ) → covers s g ≡ true → ⊥
      never g h = true≢false (sym (and_second (s.page == g / 256) _ h) ∙ empty (start_of s.class (g % 256)) (start_small (g % 256) (omega arith)))

      heap_is : found.local.heap ≡ heap
      heap_is = found.same.heap ∙ eqb-true s.heap heap (and_first (s.heap == heap) (s.class == class) passes)

      class_is : found.local.class ≡ class
      class_is = found.same.class ∙ eqb-true s.class class (and_second (s.heap == heap) (s.class == class) passes)

      spent_gone : IsSame f (up_to p k steps fewer) (placed_by k found_text w)
      spent_gone = rw found.is (given_up_same f k p w s found.local fewer steps record {
        valid = valid;
        thread = thread;
        listed = listed;
        before = before;
        same = same;
        order = order;
        kinds = kinds;
        local = found.same;
        found = rw (heap_is, class_is) found.is;
        known = known;
        in_cache = λ g h. absurd (never g h);
        fewer_same =
            subst (λ (xs : List Slots). AreSameLocals xs (others found.local.heap found.local.class (locals_of w k))) (sym (left_over.0 ∙ place.taken.others))
            (rw (heap_is, class_is) (others_same heap class c.locals (locals_of w k) both_same));
        gone = λ g h. absurd (never g h);
        after = after;
      })

  -- Place that was made in a cache leads the text to the replay's state.
  pub place_made : IsSame f (up_to p k steps fewer) (placed_by k found_text w)
  place_made = search (arith, none_gone, spent_gone)
