-- WHERE LOCAL ALLOCATORS GO: in the text, their slots come back to their pages; and the steps by which they are stopped, the pages that these mark, what a hint rests
-- on, and why a page is offered.
use Rattle.std.proofs.Common.{◌≡◌, ℕ, ◌+◌, ◌-◌, ◌≤◌, ◌==◌, Bool, true, false, ◌&&◌, ◌||◌, cond, List, [], ◌∷◌, ◌++◌, length, map, refl, ap, sym, ◌∙◌, subst}
use Rattle.std.proofs.Common.{arith, eq-eqb, eqb-true, zero, suc, ◌/◌, ◌%◌, ◌<◌, ◌⊎◌, inl, inr, MatchBool}
use Rattle.pas_steps.proofs.Past.{once_earlier}
use Rattle.pas_cache.{specs.{Locals.{HasOneEach, is_for as is_for_slots}, Changes.StopsAll}, proofs.Resting.counted}
use Rattle.pas_same_text.{specs.State.with_cache, proofs.CacheLists.{all_locals, own_with, many_with, with_own, for_same, cached_any, any_cached}}
use Rattle.pas_same_text.proofs.{GivenBack.{Returns, OnlyHints, minded_last, all_only_hints, returns_nothing, returns_then}, LowerActs.back_hints}
use Rattle.pas_same_text.proofs.{StepMarks.{IsMarked, marked_parts, none_marked, returns_marked, hints_of}, Common.{or_right, cases_eq, list_any-append}}
use Rattle.pas_same_text.proofs.Common.{list_any, count_by, has_bit, HasMember, IsClass, IsPage, Profile, Directory, Word, same_truth, once_later, once_map}
use Rattle.pas_same_text.proofs.Common.{Slots, Local, Cache, World, each, cache_in, cache_of, locals_of, set_locals, is_for, others, gives_up, AreSameLocals}
use Rattle.pas_same_text.proofs.Common.{hints_both, Mask4, triples, Whole, word_after, Legal, Once, Always, usable_by_kind, Kinds, Only, apart, Taking}
use Rattle.pas_same_text.proofs.Common.{LookFree, Putting, Made, Look, free_stays, LeaveSteps, BackSteps, words, looks, HintsEmpty, leave_due, looks_only}
use Rattle.pas_same_text.proofs.Common.{leave_returns, return_returns, puts_kinds, start_of, home_of, StopStepsAt, LeavesWhere, start_below}
use Rattle.pas_rights.specs.{Leaves.EndsLeave, Looks.{HasUsable, HasNoUsable}}
use Rattle.pas_segregated.specs.Stops.{AreGrains}

-- ---- one local allocator of a heap and class
abbrev pub AreUnique : List Local → Type 0
AreUnique [] = Unit {0}
AreUnique (l ∷ ls) = (others l.heap l.class ls ≡ ls) × AreUnique ls

none_for : (heap class : ℕ) (slots : List Slots) (ls : List Local) → AreSameLocals slots ls → count_by (is_for_slots heap class) slots ≤ 0
    → others heap class ls ≡ ls
none_for heap class [] [] same none = refl
none_for heap class (s ∷ slots) (l ∷ ls) same none =
    grind (arith, (none_for heap class slots ls same.1), none, counted (is_for_slots heap class) s slots, for_same heap class s l same.0)
none_for heap class slots ls same none = absurd same

-- Where at most one is counted and this one is, no other is counted.
-- by cases on the test
pub no_other_counted : (c : ℕ) (t : Bool) → t ≡ true → cond t 1 0 + c ≤ 1 → c ≤ 0
no_other_counted c t e h = search arith

for_own : (heap class : ℕ) (l : Local) → l.heap ≡ heap → l.class ≡ class → is_for heap class l ≡ true
for_own heap class l h c = ap (λ (t : Bool). t && (l.class == class)) (eq-eqb l.heap heap h) ∙ eq-eqb l.class class c

-- A cache with at most one local allocator of each heap and class has no two such in the text.
pub unique_of : (slots : List Slots) (ls : List Local) → AreSameLocals slots ls → HasOneEach slots → AreUnique ls
unique_of [] [] same one = tt
unique_of (s ∷ slots) (l ∷ ls) same one = (
  none_for l.heap l.class slots ls same.1 (no_other_counted _ _
      (sym (for_same l.heap l.class s l same.0) ∙ for_own l.heap l.class l refl refl) (subst (λ (n : ℕ). n ≤ 1) (counted _ s slots) (one l.heap l.class))),
  unique_of slots ls same.1 (λ heap class. let n = one heap class in grind (arith, n, counted (is_for_slots heap class) s slots)),
)
unique_of slots ls same one = absurd same

-- ---- a cache that has other local allocators
any_with : (cs : List Cache) (k : ℕ) (new : Cache) (p : Local → Bool) → (list_any p new.locals ≡ true → list_any p (cache_in cs k).locals ≡ true)
    → list_any p (all_locals (with_cache cs k new)) ≡ true → list_any p (all_locals cs) ≡ true
any_with [] k new p one h = h
any_with (c ∷ cs) k new p one h = let ih = any_with cs (k - 1) new p in grind (arith, list_any-append, ih)

with_any : (cs : List Cache) (k : ℕ) (new : Cache) (p : Local → Bool) → (list_any p (cache_in cs k).locals ≡ true → list_any p new.locals ≡ true)
    → list_any p (all_locals cs) ≡ true → list_any p (all_locals (with_cache cs k new)) ≡ true
with_any [] k new p one h = h
with_any (c ∷ cs) k new p one h = let ih = with_any cs (k - 1) new p in grind (arith, list_any-append, ih)

with_twice : (cs : List Cache) (k : ℕ) (a b : Cache) → with_cache (with_cache cs k a) k b ≡ with_cache cs k b
with_twice [] k a b = refl
with_twice (c ∷ cs) k a b = let ih = with_twice cs (k - 1) a b in grind (arith, ih)

-- ---- one local allocator goes
module _ (f : Profile) (k : ℕ) (l : Local) (w : World) (page_of : IsPage f l.page)
    (less : (p : Local → Bool) → list_any p (others l.heap l.class (locals_of w k)) ≡ true → list_any p (locals_of w k) ≡ true)
    (rest : (p : Local → Bool) → p l ≡ false → list_any p (locals_of w k) ≡ true → list_any p (others l.heap l.class (locals_of w k)) ≡ true) where
  -- A local allocator that a thread gives up brings its grains back to its page alone.
  pub one_returns : Returns f (l.page ∷ []) w (gives_up k l w)
  one_returns = search (arith, minded_last, eqb-true, any_cached, any_with, cached_any, same_truth, with_any)

-- ==== A CACHE IS GIVEN UP: these local allocators of it, in order
pub record IsGivenUp (f : Profile) (k : ℕ) (ls : List Local) (w v : World) : Type 0 where
  pub events : v.events ≡ w.events
  pub records : v.records ≡ w.records
  pub live : v.live ≡ w.live
  pub names : v.names ≡ w.names
  pub epoch : v.epoch ≡ w.epoch
  pub read : v.read ≡ w.read
  pub caches : v.caches ≡ with_cache w.caches k (record (cache_of w k) { locals = [] })
  pub returns : Returns f (map (λ l. l.page) ls) w v

module _ (f : Profile) (k : ℕ) (l : Local) (ls : List Local) (w : World) (is : locals_of w k ≡ l ∷ ls) (unique : AreUnique (l ∷ ls)) (page_of : IsPage f l.page)
  where
    abbrev new : Cache
    new = record (cache_of w k) { locals = others l.heap l.class (locals_of w k) }

    abbrev bare : World
    bare = set_locals k (others l.heap l.class (locals_of w k)) w

    -- The others are left in the text.
    left : others l.heap l.class (locals_of w k) ≡ ls
    left = search (arith, for_own)

    any_left : (p : Local → Bool) → list_any p new.locals ≡ true → list_any p (locals_of w k) ≡ true
    any_left p h = ap (list_any p) is ∙ or_right (p l) (list_any p ls) (ap (list_any p) (sym left) ∙ h)

    any_other : (p : Local → Bool) → p l ≡ false → list_any p (locals_of w k) ≡ true → list_any p new.locals ≡ true
    any_other p none h = ap (list_any p) left ∙ (ap (λ (t : Bool). t || list_any p ls) (sym none) ∙ (ap (list_any p) (sym is) ∙ h))

    abbrev pub gone : World
    gone = gives_up k l w

    -- Only hints were made.
    only : OnlyHints bare gone
    only = all_only_hints (l.page ∷ []) bare

    own_gone : 1 ≤ k → k ≤ length w.caches → cache_of gone k ≡ record (cache_of w k) { locals = ls }
    own_gone some few = search (arith, own_with)

    then_up : 1 ≤ k → k ≤ length w.caches → (v : World) → IsGivenUp f k ls gone v → IsGivenUp f k (l ∷ ls) w v
    then_up some few v up =
        let returns = returns_then f (l.page ∷ []) (map (λ x. x.page) ls) w gone v (one_returns f k l w page_of any_left any_other) up.returns in
        search (arith, only, own_gone, with_twice, returns)

abbrev pub AllOfRegion : Profile → List Local → Type 0
AllOfRegion f [] = Unit {0}
AllOfRegion f (l ∷ ls) = IsPage f l.page × AllOfRegion f ls

pub each_up : (f : Profile) (k : ℕ) (ls : List Local) (w : World) → 1 ≤ k → k ≤ length w.caches → locals_of w k ≡ ls → AreUnique ls → AllOfRegion f ls
    → IsGivenUp f k ls w (each (gives_up k) ls w)
each_up f k [] w some few is unique pages =
    let caches = sym (ap (λ (xs : List Local). with_cache w.caches k (record (cache_of w k) { locals = xs })) (sym is) ∙ with_own w.caches k) in
    search (arith, caches, returns_nothing)
each_up f k (l ∷ ls) w some few is unique pages =
    let v : World = gives_up k l w in
    let own : cache_of v k ≡ record (cache_of w k) { locals = ls } = own_gone f k l ls w is unique pages.0 some few in
    let many : k ≤ length v.caches = subst (λ (n : ℕ). k ≤ n) (cc
    ((only f k l ls w is unique pages.0).caches, many_with w.caches k (record (cache_of w k) { locals = others l.heap l.class (locals_of w k) }))) few in
    then_up f k l ls w is unique pages.0 some few _ (each_up f k ls v some many (ap (λ (c : Cache). c.locals) own) unique.1 pages.1)

-- ==== The steps by which local allocators are stopped: which pages they mark, what a hint rests on, and why a page is offered.
-- ---- a grain that blocks of the directory may cover was read as free
abbrev pub ReadsGrain : ℕ → ℕ → List Made → Type 0
ReadsGrain page g = Once (λ m before. (m.step ≡ Look (Word.Free page (g / 64))) × (has_bit m.answer (g % 64) ≡ true))

pub record ReadsRoom (page : ℕ) (d : Directory) (steps : List Made) : Type 0 where
  pub grain : ℕ
  pub small : grain < 256
  pub usable : usable_by_kind d.kind grain ≡ true
  pub read : ReadsGrain page grain steps

-- it is free still
pub grain_read : (ks : Kinds) → apart ks (Taking ∷ []) ≡ true → (f : Profile) (k : ℕ) (l : Whole) (page g : ℕ) (xs : List Made) → Legal f (triples k xs ++ l)
    → Only ks xs → ReadsGrain page g xs → has_bit (word_after (triples k xs ++ l) (Word.Free page (g / 64))) (g % 64) ≡ true
grain_read ks no_take f k l page g [] legal only h = absurd h
grain_read ks no_take f k l page g (m ∷ xs) legal only (inr h) = free_stays ks no_take k (m ∷ []) _ page _ _ (only.0, tt) (grain_read ks no_take f k l page g xs legal.1 only.1 h)
grain_read ks no_take f k l page g (m ∷ xs) legal only (inl h) = search (arith, free_stays)

-- Room that was read of a page counts as read after later steps too.
pub room_later : (page : ℕ) (d : Directory) (ys xs : List Made) → ReadsRoom page d xs → ReadsRoom page d (ys ++ xs)
room_later page d ys xs r = record { grain = r.grain; small = r.small; usable = r.usable; read = once_later _ ys xs r.read }

-- Room that later steps read of a page was read by these and those before them.
pub room_earlier : (page : ℕ) (d : Directory) (ys xs : List Made) → ReadsRoom page d ys → ReadsRoom page d (ys ++ xs)
room_earlier page d ys xs r = record { grain = r.grain; small = r.small; usable = r.usable; read = once_earlier _ _ ys xs (λ m before h. h) r.read }

look_at : (page : ℕ) (answers : ℕ → ℕ) (n word : ℕ) → word < n
    → Once (λ m before. (m.step ≡ Look (Word.Free page word)) × (m.answer ≡ answers word)) (looks page answers n)
look_at page answers zero word lt = absurd (omega (arith, lt))
look_at page answers (suc n) word lt = elim (cases_eq word n) [
  | inl e ↦ inl (ap (λ w. Look (Word.Free page w)) (sym e), ap answers (sym e))
  | inr ne ↦ inr (look_at page answers n word (omega (arith, lt, ne)))
]

-- ---- a leave: a page is offered only after a grain was read so
looks_offer_none : (page q : ℕ) (answers : ℕ → ℕ) → IsMarked q (looks page answers 4) → ⊥
looks_offer_none page q answers h = none_marked (LookFree ∷ []) refl q (looks page answers 4) (looks_only page answers 4) h

end_room : (usable all_free : Bool) (page q : ℕ) (d : Directory) (free : Mask4) (after : List Made) → MatchBool usable (HasUsable d free) (HasNoUsable d free)
    → EndsLeave usable page d all_free after → IsMarked q after → ReadsRoom page d (after ++ looks page (words free) 4)
end_room true all_free page q d free after u h marked = room_later page d after (looks page (words free) 4) (search (arith, once_map, look_at))
end_room false all_free page q d free after none h marked =
    search (arith, marked_parts, once_map, look_at, room_later, room_earlier, looks_offer_none, none_marked)

-- Of a page that a leave marks, it read room.
pub leave_room : (page q : ℕ) (d : Directory) (steps : List Made) → LeaveSteps page d steps → IsMarked q steps → ReadsRoom page d steps
leave_room page q d steps h marked = elim (marked_parts q h.after (looks page (words h.free) 4) (subst (IsMarked q) h.steps_are marked)) [
  | inl first ↦ subst (ReadsRoom page d) (sym h.steps_are) (end_room h.usable h.all_free page q d h.free h.after h.usable_is h.ends first)
  | inr later ↦ absurd (looks_offer_none page q (words h.free) later)
]

-- ==== ONE LOCAL ALLOCATOR is stopped
-- a page that is marked is its page, and it has a slot, or room was read
pub record IsMarkedBy (s : Slots) (q : ℕ) (steps : List Made) : Type 0 where
  pub page : s.page ≡ q
  pub room : HasMember s.starts ⊎ ReadsRoom q (home_of s) steps

left_marked : (s : Slots) (right : Bool) (q : ℕ) (steps : List Made) → LeavesWhere right s.page (home_of s) steps → IsMarked q steps → IsMarkedBy s q steps
left_marked s true q steps h marked =
    let same : s.page ≡ q = returns_marked s.page q steps (leave_returns s.page (home_of s) steps h) marked in
    record { page = same; room = inr (subst (λ (p : ℕ). ReadsRoom p (home_of s) steps) same (leave_room s.page q (home_of s) steps h marked)) }
left_marked s false q steps h marked = absurd (subst (IsMarked q) h marked)

back_marked : (s : Slots) (mask : Mask4) (q : ℕ) (steps : List Made) → IsClass s.class → AreGrains s mask → BackSteps s.page (home_of s) mask steps
    → IsMarked q steps → IsMarkedBy s q steps
back_marked s mask q steps is grains (inl h) marked = absurd (subst (IsMarked q) h.1 marked)
back_marked s mask q steps is grains (inr h) marked = elim (marked_parts q h.2 h.1 (subst (IsMarked q) h.5 marked)) [
  | inl first ↦ record {
    page = returns_marked s.page q h.2 (return_returns s.page (home_of s) h.2 h.4) first;
    room = inl (let below = start_below s.class h.0.0 is in (start_of s.class h.0.0, omega (arith, below.0, h.0.1), sym (grains h.0.0 h.0.1) ∙ h.0.2));
  }
  | inr later ↦ absurd (none_marked (Putting ∷ []) refl q h.1 (puts_kinds s.page mask 4 h.1 h.3) later)
]

marked_later : (s : Slots) (q : ℕ) (ys xs : List Made) → IsMarkedBy s q xs → IsMarkedBy s q (ys ++ xs)
marked_later s q ys xs o = record { page = o.page; room = elim o.room [ inl some ↦ inl some | inr r ↦ inr (room_later q (home_of s) ys xs r) ] }

marked_earlier : (s : Slots) (q : ℕ) (ys xs : List Made) → IsMarkedBy s q ys → IsMarkedBy s q (ys ++ xs)
marked_earlier s q ys xs o = record { page = o.page; room = elim o.room [ inl some ↦ inl some | inr r ↦ inr (room_earlier q (home_of s) ys xs r) ] }

-- A page that the stop of one local allocator marks is its own, with a slot or with room that was read.
pub one_marked : (s : Slots) (q : ℕ) (steps : List Made) → IsClass s.class → StopStepsAt (home_of s) s steps → IsMarked q steps → IsMarkedBy s q steps
one_marked s q steps is h marked = subst (IsMarkedBy s q) (sym h.steps_are) (elim (marked_parts q h.left h.back (subst (IsMarked q) h.steps_are marked)) [
  | inl first ↦ marked_earlier s q h.left h.back (left_marked s s.right q h.left h.leaves first)
  | inr later ↦ marked_later s q h.left h.back (back_marked s h.mask q h.back is h.grains h.puts later)
])

left_hints : (s : Slots) (right : Bool) (steps : List Made) → LeavesWhere right s.page (home_of s) steps → Always HintsEmpty steps
left_hints s right steps h = search (arith, hints_of, leave_due)

-- The stop of one local allocator hints only pages that it read as backed and empty.
pub one_hints : (s : Slots) (steps : List Made) → StopStepsAt (home_of s) s steps → Always HintsEmpty steps
one_hints s steps h = rw h.steps_are (hints_both h.left h.back (left_hints s s.right h.left h.leaves) (back_hints s.page (home_of s) h.mask h.back h.puts))

-- ==== ALL OF THEM
abbrev pub AllClasses : List Slots → Type 0
AllClasses [] = Unit {0}
AllClasses (s ∷ rest) = IsClass s.class × AllClasses rest

-- a local allocator of the list marked the page
pub data IsMarkedIn (q : ℕ) (steps : List Made) : List Slots → Type 0 where
  Here : (s : Slots) (rest : List Slots) → IsMarkedBy s q steps → IsMarkedIn q steps (s ∷ rest)
  There : (s : Slots) (rest : List Slots) → IsMarkedIn q steps rest → IsMarkedIn q steps (s ∷ rest)

in_later : (q : ℕ) (ys xs : List Made) (slots : List Slots) → IsMarkedIn q xs slots → IsMarkedIn q (ys ++ xs) slots
in_later q ys xs slots (IsMarkedIn.Here s rest o) = IsMarkedIn.Here s rest (marked_later s q ys xs o)
in_later q ys xs slots (IsMarkedIn.There s rest o) = IsMarkedIn.There s rest (in_later q ys xs rest o)

-- A page that the stop of several local allocators marks is marked by one of them.
pub all_marked : (q : ℕ) (slots : List Slots) (steps : List Made) → AllClasses slots → StopsAll slots steps → IsMarked q steps → IsMarkedIn q steps slots
all_marked q [] steps classes h marked = absurd (subst (IsMarked q) h marked)
all_marked q (s ∷ rest) steps classes h marked = subst (λ ms. IsMarkedIn q ms (s ∷ rest)) (sym h.4) (elim (marked_parts q h.0 h.1 (subst (IsMarked q) h.4 marked)) [
  | inl first ↦ IsMarkedIn.Here s rest (marked_earlier s q h.0 h.1 (one_marked s q h.0 classes.0 h.2 first))
  | inr later ↦ IsMarkedIn.There s rest (in_later q h.0 h.1 rest (all_marked q rest h.1 classes.1 h.3 later))
])

-- The stop of several local allocators hints only pages that it read as backed and empty.
pub all_hints : (slots : List Slots) (steps : List Made) → StopsAll slots steps → Always HintsEmpty steps
all_hints [] steps h = subst (Always HintsEmpty) (sym h) tt
all_hints (s ∷ rest) steps h = subst (Always HintsEmpty) (sym h.4) (hints_both h.0 h.1 (one_hints s h.0 h.2) (all_hints rest h.1 h.3))
