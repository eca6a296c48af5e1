-- What a test finds in a list of local allocators, and lists with one more or in another order.
use Rattle.std.proofs.Common.{◌≡◌, ℕ, zero, suc, ◌+◌, ◌-◌, ◌<◌, ◌≤◌, Bool, true, false, not, ◌||◌, cond, List, [], ◌∷◌, ◌++◌, length, get_or, set, length-set}
use Rattle.std.proofs.Common.{length-append, ◌⊎◌, Some, None, inl, inr, refl, ap, sym, ◌∙◌, subst, arith, true≢false, ◌*◌, ◌/◌, ◌%◌, ◌^◌, ◌==◌, if◌then◌else◌}
use Rattle.std.proofs.{Common.{◌&&◌, eq-eqb, eqb-true, All}, lemmas.List.{get_or-append_right, set-append_right, Sums.sum_by-cons, Elements.All-head}}
use Rattle.std.proofs.lemmas.List.{Elements.{All-tail, All-cons}, Recursion.or_at, Sorted.{IsPermutation-cons, IsPermutation-trans, IsPermutation-middle}}
use Rattle.std.proofs.lemmas.{List.Sorted.{All-permutation, sum_by-IsPermutation, list_any-IsPermutation}, Bool.{cases_Bool, and_from, and_parts, or_right}}
use Rattle.std.{proofs.{lemmas.Bool.{false_from_ne_true, cond-false}, Math.Bool.and-false}, specs.List.{list_any, find, filter, count_by, remove, refill}}
use Rattle.std.specs.List.Sorted.{IsPermutation}
use Rattle.arrayvec.proofs.ArrayVecLemmas.{items-with_items}
use Rattle.pas_profile.specs.{Classes.{IsClass, class_grains, IsSlotStart}, Blocks.{grain_of, length_of}, declared.{name.Block.Block, profile.Profile.Profile}}
use Rattle.pas_profile.{specs.declared.directory.Directory.Directory, proofs.Sizes.{class_size_whole, class_grains_positive, slot_end}}
use Rattle.pas_profile.proofs.Codecs.{deed_word_of-positive}
use Rattle.pas_bits.{specs.{Runs.in_run, Masks.{is_set, IsLowestSet}}, proofs.Runs.{run_of, to_run}}
use Rattle.pas_rights.{specs.Gives.{MayGive, give_steps, GivesRun}, proofs.Gives.may_give_on}
use Rattle.pas_steps.specs.{Desks.{Standing, CanCall}, Agreement.Agreed, Views.{View, holds, knows_backed}, Calls.{Effect, Fate, Kept, Gained, Lost, now}}
use Rattle.pas_steps.{specs.{Calls.{nothing, ClearAfter, Does}, declared.step.Made.Made}, proofs.{Called.call_as, Frames.deed_stays, Calls.does_then}}
use Rattle.pas_steps.proofs.{Calls.{does_as, does_step}, Sets.given_fate}
use Rattle.pas_segregated.specs.{Stops.{home_of, of_slots, MayStopAt, home_by}, declared.slots.Slots.Slots, Refills.{got, GetsSlots}, Masks.start_of}
use Rattle.pas_segregated.proofs.Starts.{start_at, start_below}
use Rattle.pas_cache.specs.{Locals.{covers, keeps_right, any_covers, any_keeps, local_for, IsLocal, AreApart, RestsWith}, Changes.{IsWithoutSlot, GivesSlot}}
use Rattle.pas_cache.specs.Parts.{MayGiveSlot, GivesLowest}

abbrev one_if : Bool → ℕ
one_if t = cond t 1 0

module _ {X : Type 0} (test : X → Bool) where
  -- none passes the test, or the first that does is found
  pub record NonePasses (xs : List X) : Type 0 where
    pub found : find test xs ≡ None
    pub any : list_any test xs ≡ false
    pub count : count_by test xs ≡ 0
    -- The other local allocators are as they were.
    pub others : filter (λ x. not (test x)) xs ≡ xs

  pub record Passes (xs : List X) (x : X) : Type 0 where
    pub found : find test xs ≡ Some x
    pub any : list_any test xs ≡ true
    pub count : 1 ≤ count_by test xs
    pub passes : test x ≡ true
    pub without : count_by test xs ≤ 1 → IsPermutation xs (x ∷ filter (λ y. not (test y)) xs)

  -- One more element counts where it passes the test.
  pub counted : (x : X) (xs : List X) → count_by test (x ∷ xs) ≡ cond (test x) 1 0 + count_by test xs
  counted x xs = sum_by-cons (λ y. cond (test y) 1 0) x xs

  counted_is : (x : X) (xs : List X) → test x ≡ true → count_by test (x ∷ xs) ≡ 1 + count_by test xs
  counted_is x xs is = counted x xs ∙ ap (λ t. cond t 1 0 + count_by test xs) is

  counted_not : (x : X) (xs : List X) → test x ≡ false → count_by test (x ∷ xs) ≡ count_by test xs
  counted_not x xs isnt = let n = counted x xs in let none = ap one_if isnt in omega (arith, n, none)

  first_passes : (x : X) (xs : List X) → test x ≡ true → (count_by test xs ≡ 0 → NonePasses xs) → Passes (x ∷ xs) x
  first_passes x xs is none = search (arith, counted_is)

  later_passes : (x : X) (xs : List X) (y : X) → test x ≡ false → Passes xs y → Passes (x ∷ xs) y
  later_passes x xs y isnt h =
      let n = counted_not x xs isnt in
      record {
        found = ap (λ t. cond t (Some x) (find test xs)) isnt ∙ h.found;
        any = ap (λ t. t || list_any test xs) isnt ∙ h.any;
        count = omega (arith, n, h.count);
        passes = h.passes;
        without = λ one.
            let others : List X = filter (λ z. not (test z)) xs in
            let keeps : filter (λ z. not (test z)) (x ∷ xs) ≡ x ∷ others = ap (λ t. cond (not t) (x ∷ others) others) isnt in
            subst (λ ys. IsPermutation (x ∷ xs) (y ∷ ys)) (sym keeps)
            (IsPermutation-trans (x ∷ xs) (x ∷ y ∷ others) (y ∷ x ∷ others) (IsPermutation-cons x xs (y ∷ others) (h.without (omega (arith, n, one)))) (IsPermutation-middle (x ∷ []) y others));
      }

  -- None of a list passes the test, or some element does.
  passing : (xs : List X) → NonePasses xs ⊎ ((x : X) × Passes xs x)
  passing [] = inl (record { found = refl; any = refl; count = refl; others = refl })
  passing (x ∷ xs) = elim (cases_Bool _) [
    | inl is ↦ inr (x, first_passes x xs is (λ zero_there. elim (passing xs) [ inl none ↦ none | inr some ↦ absurd (omega (arith, some.1.count, zero_there)) ]))
    | inr isnt ↦ elim (passing xs) [ inl none ↦ inl (search (arith, counted_not)) | inr some ↦ inr (some.0, later_passes x xs some.0 isnt some.1) ]
  ]

  -- by what is known of the list
  pub none_found : (xs : List X) → find test xs ≡ None → NonePasses xs
  none_found xs h = elim (passing xs) [ inl none ↦ none | inr some ↦ let found = some.1.found in cc ]

  -- Where a list has none that passes the test, nothing in it passes.
  pub none_any : (xs : List X) → list_any test xs ≡ false → NonePasses xs
  none_any xs h = elim (passing xs) [ inl none ↦ none | inr some ↦ absurd (true≢false (sym some.1.any ∙ h)) ]

  none_count : (xs : List X) → count_by test xs ≡ 0 → NonePasses xs
  none_count xs h = elim (passing xs) [ inl none ↦ none | inr some ↦ absurd (omega (arith, some.1.count, h)) ]

  -- What is found in a list passes the test.
  pub found_passes : (xs : List X) (x : X) → find test xs ≡ Some x → Passes xs x
  found_passes xs x h = elim (passing xs) [ inl none ↦ let found = none.found in cc | inr some ↦ let found = some.1.found in subst (Passes xs) (cc) some.1 ]

  -- ---- of a list with one more
  no_other : (x : X) (xs : List X) → count_by test (x ∷ xs) ≤ 1 → test x ≡ true → list_any test xs ≡ false
  no_other x xs one is = let n = counted_is x xs is in (none_count xs (omega (arith, n, one))).any

  -- One more in a list, of which none passed if it does, leaves at most one that passes.
  one_more : (x : X) (xs : List X) → (test x ≡ true → list_any test xs ≡ false) → count_by test xs ≤ 1 → count_by test (x ∷ xs) ≤ 1
  one_more x xs other one = elim (cases_Bool _) [
    | inl is ↦ let n = counted_is x xs is in let none = (none_any xs (other is)).count in omega (arith, n, none)
    | inr isnt ↦ let n = counted_not x xs isnt in omega (arith, n, one)
  ]

  -- A list of which at most one passes has at most one without its first.
  one_fewer : (x : X) (xs : List X) → count_by test (x ∷ xs) ≤ 1 → count_by test xs ≤ 1
  one_fewer x xs one = let n = counted x xs in omega (arith, n, one)

  -- the one at a place
  pub at_place : (xs : List X) (place : ℕ) (d : X) → place < length xs → test (get_or xs place d) ≡ true → count_by test xs ≤ 1
      → (find test xs ≡ Some (get_or xs place d)) × (filter (λ y. not (test y)) xs ≡ remove xs place)
  at_place [] place d lt is one = absurd (omega arith)
  at_place (x ∷ xs) zero d lt is one =
      let n = counted_is x xs is in
      (ap (λ t. cond t (Some x) (find test xs)) is, ap (λ t. cond (not t) (x ∷ filter (λ y. not (test y)) xs) (filter (λ y. not (test y)) xs)) is ∙ (none_count xs (omega (arith, n, one))).others)
  at_place (x ∷ xs) (suc place) d lt is one =
      let later = at_place xs place d (omega (arith, lt)) is (one_fewer x xs one) in
      elim (cases_Bool _) [
        | inl passes ↦ let n = counted_is x xs passes in let none = none_count xs (omega (arith, n, one)) in let found = none.found in let other = later.0 in absurd (cc)
        | inr fails ↦ search arith
      ]

  -- those that don't pass
  pub none_left : (xs : List X) → find test (filter (λ x. not (test x)) xs) ≡ None
  none_left [] = refl
  none_left (x ∷ xs) = elim (cases_Bool _) [
    | inl is ↦ ap (λ t. find test (cond (not t) (x ∷ filter (λ y. not (test y)) xs) (filter (λ y. not (test y)) xs))) is ∙ none_left xs
    | inr isnt ↦ ap (λ t. find test (cond (not t) (x ∷ filter (λ y. not (test y)) xs) (filter (λ y. not (test y)) xs))) isnt
        ∙ ap (λ t. cond t (Some x) (find test (filter (λ y. not (test y)) xs))) isnt ∙ none_left xs
  ]

-- ---- the last one
module _ {X : Type 0} where
  -- A list is all but its last, and that one at the end.
  pub at_end : (xs : List X) (place : ℕ) (d : X) → place + 1 ≡ length xs → xs ≡ remove xs place ++ get_or xs place d ∷ []
  at_end [] place d is = absurd (omega arith)
  at_end (x ∷ []) zero d is = refl
  at_end (x ∷ y ∷ xs) zero d is = absurd (omega arith)
  at_end (x ∷ xs) (suc place) d is = ap (λ ys. x ∷ ys) (at_end xs place d (omega (arith, is)))

  -- Where one moves into the hole before it, the others are the same.
  hole_next : (xs : List X) (hole : ℕ) (d : X) → suc hole < length xs → remove (set xs hole (get_or xs (suc hole) d)) (suc hole) ≡ remove xs hole
  hole_next [] hole d lt = absurd (omega arith)
  hole_next (x ∷ []) zero d lt = absurd (omega arith)
  hole_next (x ∷ y ∷ xs) zero d lt = refl
  hole_next (x ∷ xs) (suc hole) d lt = ap (λ ys. x ∷ ys) (hole_next xs hole d (omega (arith, lt)))

  pub hole_on : (xs : List X) (hole : ℕ) (d : X) → hole + 1 < length xs → remove (set xs hole (get_or xs (hole + 1) d)) (hole + 1) ≡ remove xs hole
  hole_on xs hole d lt =
      let next : suc hole ≡ hole + 1 = omega arith in
      subst (λ n. remove (set xs hole (get_or xs n d)) n ≡ remove xs hole) next (hole_next xs hole d (omega (arith, lt)))

  -- What fills a hole at the end stands behind the others.
  pub hole_filled : (xs : List X) (hole : ℕ) (x : X) → hole + 1 ≡ length xs → set xs hole x ≡ remove xs hole ++ x ∷ []
  hole_filled [] hole x is = absurd (omega arith)
  hole_filled (y ∷ []) zero x is = refl
  hole_filled (y ∷ z ∷ xs) zero x is = absurd (omega arith)
  hole_filled (y ∷ xs) (suc hole) x is = ap (λ ys. y ∷ ys) (hole_filled xs hole x (omega (arith, is)))

  -- a write through the slice keeps the length
  pub refill_same : (xs ys : List X) → length ys ≡ length xs → refill (length xs) xs ys ≡ ys
  refill_same xs ys same = items-with_items (record { items = xs }) ys same

  -- What stands at the last place of a list is its last one.
  pub last_is : {xs ys : List X} {n : ℕ} (fewer : List X) (x d : X) → ys ≡ xs → xs ≡ fewer ++ x ∷ [] → n ≡ length xs → get_or ys (n - 1) d ≡ x
  last_is {xs} {ys} {n} fewer x d same last long = search (arith, length-append, get_or-append_right)

  -- A list whose last one was set to another has that one at its end.
  pub last_set : {xs ys : List X} {n : ℕ} (fewer : List X) (x y : X) → ys ≡ xs → xs ≡ fewer ++ x ∷ [] → n ≡ length xs
      → refill (length xs) xs (set ys (n - 1) y) ≡ fewer ++ y ∷ []
  last_set {xs} {ys} {n} fewer x y same last long =
      let m = ap length last ∙ length-append fewer _ in
      let first : n - 1 - length fewer ≡ 0 = omega (arith, m, long) in
      refill_same xs _ (length-set ys _ y ∙ ap length same)
      ∙ (ap (λ zs. set zs (n - 1) y) (same ∙ last) ∙ (set-append_right fewer _ _ _ y refl (omega (arith, m, long)) ∙ ap (λ k. fewer ++ set (x ∷ []) k y) first))

-- ==== An actor at rest with local allocators: what it has of each, that it is at rest again after a call, and that one gives its lowest slot.

-- ==== The lowest slot is given.

-- its first grain in the region
abbrev pub first_grain : Slots → ℕ → ℕ
first_grain slots start = slots.page * 256 + start

grain_is : (slots : Slots) (start : ℕ) → (slots.page * 4096 + start * 16) / 16 ≡ first_grain slots start
grain_is slots start = omega arith

-- ---- the grains of a slot
pub record InSlot (slots : Slots) (start g : ℕ) : Type 0 where
  pub page : g / 256 ≡ slots.page
  pub low : start ≤ g % 256
  pub high : g % 256 < start + class_grains slots.class

in_slot : (slots : Slots) (start g : ℕ) → IsClass slots.class → IsSlotStart slots.class start
    → in_run (first_grain slots start) (class_grains slots.class) g ≡ true → InSlot slots start g
in_slot slots start g is slot inside = search (arith, run_of, slot_end)

-- they are among those of all slots
slot_covers : (slots : Slots) (start g : ℕ) → IsSlotStart slots.class start → is_set slots.starts start ≡ true → InSlot slots start g → covers slots g ≡ true
slot_covers slots start g slot set at = search (arith, and_from, eq-eqb, start_at)

-- ---- the give
module _ (slots : Slots) (start : ℕ) (lowest : IsLowestSet slots.starts 0 start) where
  -- The lowest slot of a local allocator has some grains, and lies on its page.
  pub slot_within : (f : Profile) (v : View) → MayGiveSlot f slots v → (1 ≤ class_grains slots.class) × (start + class_grains slots.class ≤ 256)
  slot_within f v may = (class_grains_positive slots.class may.local.class, slot_end slots.class start may.local.class (may.local.starts start lowest.set))

  -- The lowest slot of a local allocator lies within the region.
  pub region_within : (f : Profile) (v : View) → MayGiveSlot f slots v → slots.page * 256 + start + class_grains slots.class ≤ 256 * (f.pages + 1)
  region_within f v may = let ends = (slot_within f v may).1 in omega (arith, may.local.page.1, ends)

  may_give : (f : Profile) (v : View) → MayGiveSlot f slots v → MayGive f slots.heap slots.page start (class_grains slots.class) v
  may_give f v may = search (arith, may_give_on, slot_within, slot_covers, in_slot)

  -- Who may give a slot of a local allocator may give the block of its lowest one.
  pub can_give : {σ : Standing} → CanCall σ (MayGiveSlot σ.seat.profile slots)
      → CanCall σ (MayGive σ.seat.profile slots.heap slots.page start (class_grains slots.class))
  can_give {σ} can = record { view = can.view; whole = can.whole; stood = can.stood; met = may_give σ.seat.profile can.view can.met }

  -- The block of the lowest slot that was given leaves the local allocator without that slot.
  pub gives_lowest : {σ σ' : Standing} (slots' : Slots) (block : Block) → IsClass slots.class → IsWithoutSlot slots slots' start
      → GivesRun slots.heap slots.page start (class_grains slots.class) block σ σ' → GivesLowest slots slots' block σ σ'
  gives_lowest {σ} slots' block is rest give = record {
    steps = give_steps slots.page start block give.word give.answer;
    calls = call_as (λ v w. block.name.turn < 2 ^ 37) give.calls (may_give _) (λ v w met gave. gave.turn);
    gives = search (arith, class_size_whole);
  }

-- ==== At rest after a call.

-- ---- one local allocator after a call
-- one whose grains were all kept is as it was
local_after : (f : Profile) (e : Effect) (steps : List Made) (v : View) (t : Slots) → Does e v (steps ++ v) → Agreed f v steps
    → ((g : ℕ) → covers t g ≡ true → (holds v g ≡ true) × (e.grains g ≡ Kept)) → IsLocal f v t → IsLocal f (steps ++ v) t
local_after f e steps v t does agreed stays at = record {
  page = at.page;
  class = at.class;
  directory = at.directory;
  kept = at.kept;
  starts = at.starts;
  deed = deed_stays f steps v t.page agreed (λ none. deed_word_of-positive (home_of t) (sym at.deed ∙ none)) ∙ at.deed;
  backed = λ some.
      let g : ℕ = first_grain t some.0 in
      let on : g / 256 ≡ t.page = omega (arith, some.1) in
      let here = stays g (search (arith, class_grains_positive, slot_covers)) in
      subst (λ p. knows_backed (steps ++ v) p ≡ true) on (does.backed g here.1 (record { held = here.0; backed = subst (λ p. knows_backed v p ≡ true) (sym on) (at.backed some) })).backed;
}

-- What is known of local allocators stays so through steps that keep all their grains.
pub locals_after : (f : Profile) (e : Effect) (steps : List Made) (v : View) (locals : List Slots) → Does e v (steps ++ v) → Agreed f v steps
    → ((g : ℕ) → any_covers locals g ≡ true → (holds v g ≡ true) × (e.grains g ≡ Kept)) → All (IsLocal f v) locals → All (IsLocal f (steps ++ v)) locals
locals_after f e steps v locals does agreed stays known k d lt = local_after f e _ v _ does agreed
    (λ g here. stays g (or_at (list_any (λ t. covers t g)) (λ t. covers t g) refl (λ x xs. refl) _ k d lt here)) (known k d lt)

-- ---- all of them
-- the order doesn't matter
pub rests_reordered : (f : Profile) (xs ys : List Slots) → IsPermutation xs ys → (v : View) → RestsWith f xs v → RestsWith f ys v
rests_reordered f xs ys p v h =
    let few : (test : Slots → Bool) → count_by test xs ≤ 1 → count_by test ys ≤ 1 = λ test one. let same : count_by test ys ≡ count_by test xs = sum_by-IsPermutation _ xs ys p in omega (arith, same, one) in
    record {
      grains = λ g. h.grains g ∙ list_any-IsPermutation (λ t. covers t g) xs ys p;
      rights = λ page. h.rights page ∙ list_any-IsPermutation (λ t. keeps_right t page) xs ys p;
      clear = h.clear;
      known = All-permutation (IsLocal f v) xs ys p h.known;
      apart = record { one_each = λ heap class. few _ (h.apart.one_each heap class); grains = λ g. few _ (h.apart.grains g); rights = λ page. few _ (h.apart.rights page) };
    }

-- after a call with this effect, where what the others cover and keep is what it leaves
pub rests_by : (f : Profile) (e : Effect) (steps : List Made) (v : View) (xs ys : List Slots) → Does e v (steps ++ v)
    → ((g : ℕ) → now (e.grains g) (any_covers xs g) ≡ any_covers ys g) → ((page : ℕ) → now (e.rights page) (any_keeps xs page) ≡ any_keeps ys page)
    → ((page : ℕ) → e.clears page ≡ Kept) → RestsWith f xs v → All (IsLocal f (steps ++ v)) ys → AreApart ys → RestsWith f ys (steps ++ v)
rests_by f e steps v xs ys does grains rights clears h known apart = record {
  grains = λ g. does.held g ∙ ap (now (e.grains g)) (h.grains g) ∙ grains g;
  rights = λ page. does.right page ∙ ap (now (e.rights page)) (h.rights page) ∙ rights page;
  clear = record { on = λ page. subst (λ t. ClearAfter t page v (steps ++ v)) (clears page) (does.clear page) (h.clear.on page) };
  known = known;
  apart = apart;
}

-- a call that does nothing
pub rests_kept : (f : Profile) (locals : List Slots) (steps : List Made) (v : View) → Does nothing v (steps ++ v) → Agreed f v steps → RestsWith f locals v
    → RestsWith f locals (steps ++ v)
rests_kept f locals steps v does agreed h = rests_by f nothing _ v _ _ does (λ g. refl) (λ page. refl) (λ page. refl) h
    (locals_after f nothing _ v _ does agreed (λ g here. (h.grains g ∙ here, refl)) h.known) h.apart

unless_covered : (t : Bool) (fate : Fate) → (t ≡ true → ⊥) → (if t then fate else Kept) ≡ Kept
unless_covered t fate isnt = cond-false t fate Kept (false_from_ne_true t isnt)

-- ---- the first of them
module _ (f : Profile) (slots : Slots) (rest : List Slots) (v : View) (h : RestsWith f (slots ∷ rest) v) where
  -- A cache at rest knows of its first local allocator what a local allocator is.
  pub here : IsLocal f v slots
  here = All-head (IsLocal f v) slots rest h.known

  others : All (IsLocal f v) rest
  others = All-tail (IsLocal f v) slots rest h.known

  no_other_grain : (g : ℕ) → covers slots g ≡ true → any_covers rest g ≡ false
  no_other_grain g = no_other (λ t. covers t g) slots rest (h.apart.grains g)

  no_other_right : (page : ℕ) → keeps_right slots page ≡ true → any_keeps rest page ≡ false
  no_other_right page = no_other (λ t. keeps_right t page) slots rest (h.apart.rights page)

  held_here : (g : ℕ) → covers slots g ≡ true → holds v g ≡ true
  held_here g covered = h.grains g ∙ ap (λ t. t || any_covers rest g) covered

  -- A cache at rest may stop its first local allocator.
  pub may_stop : MayStopAt (home_of slots) slots v
  may_stop = search (arith, held_here, here, and_from, eq-eqb)

  -- A cache at rest may give a slot of its first local allocator.
  pub may_give_slot : MayGiveSlot f slots v
  may_give_slot = record { held = held_here; local = here; stamped = (h.clear.on slots.page).stamped }

  -- the others after a call that keeps what this one doesn't cover
  others_after : (e : Effect) (steps : List Made) → Does e v (steps ++ v) → Agreed f v steps → ((g : ℕ) → covers slots g ≡ false → e.grains g ≡ Kept)
      → All (IsLocal f (steps ++ v)) rest
  others_after e steps does agreed kept = locals_after f e _ v _ does agreed (λ g there. (
    h.grains g ∙ or_right (covers slots g) (any_covers rest g) there,
    kept g (false_from_ne_true _ (λ mine. true≢false (sym there ∙ no_other_grain g mine))),
  )) others

  fewer_apart : AreApart rest
  fewer_apart = record {
    one_each = λ heap class. one_fewer _ slots rest (h.apart.one_each heap class);
    grains = λ g. one_fewer (λ t. covers t g) slots rest (h.apart.grains g);
    rights = λ page. one_fewer (λ t. keeps_right t page) slots rest (h.apart.rights page);
  }

  -- it goes
  pub rests_stopped : (steps : List Made) → Does (of_slots slots Lost) v (steps ++ v) → Agreed f v steps → RestsWith f rest (steps ++ v)
  rests_stopped steps does agreed = rests_by f _ steps v _ rest does
      (λ g. (grind (arith, no_other_grain g))) (λ page. (grind (arith, no_other_right page))) (λ page. refl) h
      (others_after _ steps does agreed (λ g outside. ap (λ t. if t then Lost else Kept) outside)) fewer_apart

-- A cache that rests is at rest with slots more that it got.
pub rests_gained : (f : Profile) (d : Directory) (slots : Slots) (rest : List Slots) (steps : List Made) (v : View) → RestsWith f rest v
    → GetsSlots d slots v (steps ++ v) → Agreed f v steps → IsLocal f (steps ++ v) slots
    → local_for slots.heap slots.class rest ≡ None
    → (All (IsLocal f (steps ++ v)) rest → (page : ℕ) → (slots.page == page) ≡ true → any_keeps rest page ≡ false) → RestsWith f (slots ∷ rest) (steps ++ v)
rests_gained f d slots rest steps v h gains agreed here none no_right =
    let e : Effect = got slots in
    let later : All (IsLocal f (steps ++ v)) rest = locals_after f e _ v _ gains.does agreed
    (λ g there. (h.grains g ∙ there, unless_covered _ Gained (λ mine. true≢false (sym (h.grains g ∙ there) ∙ gains.apart g mine)))) h.known in
    rests_by f e _ v _ _ gains.does (λ g. (grind arith)) (λ page. (grind arith)) (λ page. refl) h
    (All-cons (IsLocal f (steps ++ v)) slots rest here later)
    (record {
      one_each = λ heap class. one_more _ slots rest (λ is. let pair = and_parts (slots.heap == heap) (slots.class == class) is in
          (none_found _ rest (cc (eqb-true slots.heap heap pair.0, eqb-true slots.class class pair.1))).any) (h.apart.one_each heap class);
      grains = λ g. one_more (λ t. covers t g) slots rest (λ mine. sym (h.grains g) ∙ gains.apart g mine) (h.apart.grains g);
      rights = λ page. one_more _ slots rest (λ keeps. no_right later page (and_parts slots.right (slots.page == page) keeps).1) (h.apart.rights page);
    })

-- ==== At rest after one of them gave a slot.

-- ---- what the two steps do
-- the block's grains are held no longer
abbrev given : Block → Effect
given block = record { grains = λ g. if in_run (grain_of block.name) (length_of block) g then Lost else Kept; rights = λ page. Kept; clears = λ page. Kept }

give_does : (f : Profile) (slots rest : Slots) (block : Block) (steps : List Made) → GivesSlot slots rest block steps → (v : View) → Agreed f v steps
    → Does (given block) v (steps ++ v)
give_does f slots rest block steps gives v agreed =
    let ok = subst (Agreed f v) gives.steps_are agreed in
    subst (λ s. Does (given block) v (s ++ v)) (sym gives.steps_are)
    (does_as _ (does_then (does_step f _ gives.word v refl ok.1.0) (does_step f _ gives.answer _ refl ok.0))
    (λ g. inl (given_fate _ _)) (λ page. refl) (λ page h. h))

-- Where no start is on the page, to leave it out changes nothing.
unless_start : (page at set : Bool) → (page ≡ true → at ≡ true → ⊥) → (page && (not at && set)) ≡ (page && set)
unless_start page at set h = grind arith

module _ (f : Profile) (locals : List Slots) (slots rest : Slots) (block : Block) (steps : List Made) (gives : GivesSlot slots rest block steps) (v : View)
    (h : RestsWith f (slots ∷ locals) v) where
  -- This one is a local allocator of the actor.
  local : IsLocal f v slots
  local = here f slots locals v h

  abbrev start : ℕ
  start = gives.start

  -- The start is that of a slot of its class.
  slot : IsSlotStart slots.class start
  slot = local.starts start gives.lowest.set

  run_is : (g : ℕ) → in_run (grain_of block.name) (length_of block) g ≡ in_run (first_grain slots start) (class_grains slots.class) g
  run_is g = cc (grain_is slots start)

  abbrev start_here : ℕ → ℕ
  start_here g = start_of slots.class (g % 256)

  covers_rest : (g : ℕ) → covers rest g ≡ ((slots.page == g / 256) && (not (start_here g == start) && is_set slots.starts (start_here g)))
  covers_rest g = cc (gives.rest.starts (start_here g))

  -- what the rest covers or keeps, all of the slots did
  covered : (g : ℕ) → covers rest g ≡ true → covers slots g ≡ true
  covered g of_rest = search (arith, and_parts, covers_rest, and_from)

  -- What is left keeps the right of the same page.
  kept : (page : ℕ) → keeps_right rest page ≡ keeps_right slots page
  kept page = ap (λ r. r && (rest.page == page)) gives.rest.right ∙ ap (λ q. slots.right && (q == page)) gives.rest.page

  inside_covered : (g : ℕ) → in_run (grain_of block.name) (length_of block) g ≡ true → covers slots g ≡ true
  inside_covered g inside = slot_covers slots start g slot gives.lowest.set (in_slot slots start g local.class slot (sym (run_is g) ∙ inside))

  inside_gone : (g : ℕ) → in_run (grain_of block.name) (length_of block) g ≡ true → (covers rest g || any_covers locals g) ≡ false
  inside_gone g inside =
      let at : InSlot slots start g = in_slot slots start g local.class slot (sym (run_is g) ∙ inside) in
      let same : (start_here g == start) ≡ true = eq-eqb _ start (start_at slots.class start _ slot at.low at.high) in
      let gone = covers_rest g ∙ (ap (λ t. (slots.page == g / 256) && (not t && is_set slots.starts (start_here g))) same ∙ and-false _) in
      ap (λ t. t || any_covers locals g) gone ∙ no_other_grain f slots locals v h g (inside_covered g inside)

  outside_same : (g : ℕ) → in_run (grain_of block.name) (length_of block) g ≡ false → covers rest g ≡ covers slots g
  outside_same g outside = covers_rest g ∙ unless_start (slots.page == g / 256) (start_here g == start) (is_set slots.starts (start_here g)) (λ page at.
      let below = start_below slots.class (g % 256) local.class in
      let low = below.0 in
      let high = below.1 in
      let p : slots.page ≡ g / 256 = eqb-true slots.page (g / 256) page in
      let s : start_here g ≡ start = eqb-true (start_here g) start at in
      true≢false (sym (to_run _ _ g (omega (arith, low, p, s)) (omega (arith, high, p, s))) ∙ (sym (run_is g) ∙ outside)))

  same_home : home_of rest ≡ home_of slots
  same_home = ap (λ h. home_by h rest.class rest.right) gives.rest.heap ∙ (ap (λ c. home_by slots.heap c rest.right) gives.rest.class ∙ ap (home_by slots.heap slots.class) gives.rest.right)

  -- A cache that rests is at rest after a slot of its first local allocator was given.
  pub rests_given : Agreed f v steps → RestsWith f (rest ∷ locals) (steps ++ v)
  rests_given agreed =
      let does : Does (given block) v (steps ++ v) = give_does f slots rest block steps gives v agreed in
      let fewer : AreApart locals = fewer_apart f slots locals v h in
      rests_by f _ steps v _ _ does (λ g. (grind (arith, inside_gone g, outside_same g)))
      (λ page. ap (λ t. t || any_keeps locals page) (sym (kept page))) (λ page. refl) h
      (All-cons (IsLocal f (steps ++ v)) rest locals
      (local_after f _ _ v _ does agreed (λ g of_rest. (h.grains g ∙ ap (λ t. t || any_covers locals g) (covered g of_rest), (unless_covered _ Lost (λ inside. true≢false (sym (ap (λ t. t || any_covers locals g) of_rest) ∙ inside_gone g inside))))) (search (arith, local, same_home, and_parts)))
      (others_after f slots locals v h _ steps does agreed (λ g outside. unless_covered _ Lost (λ inside. true≢false (sym (inside_covered g inside) ∙ outside))))) (record {
        one_each = λ heap class. one_more _ rest locals (λ is. no_other _ slots locals (h.apart.one_each heap class) (sym (ap (λ x. (x == heap) && (rest.class == class)) gives.rest.heap ∙ ap (λ x. (slots.heap == heap) && (x == class)) gives.rest.class) ∙ is)) (fewer.one_each heap class);
        grains = λ g. one_more (λ t. covers t g) rest locals (λ of_rest. no_other_grain f slots locals v h g (covered g of_rest)) (fewer.grains g);
        rights = λ page. one_more (λ t. keeps_right t page) rest locals (λ of_rest. no_other_right f _ _ v h _ (sym (kept page) ∙ of_rest)) (fewer.rights page);
      })

  -- the block's pages
  pub given_page : (g : ℕ) → in_run (grain_of block.name) (length_of block) g ≡ true → g / 256 ≡ slots.page
  given_page g inside = (in_slot slots start g local.class slot (sym (run_is g) ∙ inside)).page
