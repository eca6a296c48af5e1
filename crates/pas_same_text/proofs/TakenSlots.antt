-- THE SLOTS that a search took of a page are those that the text takes of it: of an exclusive page all free ones, of a shared page the first free one and those behind
-- it without a break, four at most.
use Rattle.std.proofs.Common.{◌≡◌, ℕ, zero, suc, ◌+◌, ◌-◌, ◌*◌, ◌/◌, ◌<◌, ◌≤◌, ◌==◌, Bool, true, false, ◌||◌, if◌then◌else◌, List, [], ◌∷◌, IsTrue, ◌↔◌, inl}
use Rattle.std.proofs.{Common.{inr, refl, ap, sym, ◌∙◌, subst, arith, eq-eqb, eqb-true, ne_eqb}, Math.Nat.{add-mul, mul-le-mul_right, mul-div_cancel}}
use Rattle.pas_same_text.proofs.Common.{false≢true, or_cases, or_left, or_right, cases_Bool, false_from_ne_true, suc-mul, AllByRecursion, filter, is_set, Mask4}
use Rattle.pas_same_text.proofs.Common.{IsClass, class_grains, slots_of, IsValid, Profile, class_grains_positive, same_truth, free_of_page, IsFreeSlot}
use Rattle.pas_same_text.proofs.Common.{IsLowestRow, Progress, World, are_free, is_guarded, HasSame, IsRising, has_number, IsBetween, spaced, slots_for}
use Rattle.pas_same_text.proofs.{PlacesFit.{slot_there, slot_index, slot_tested, slot_free, in_spaced, from_spaced, next_place}, Tests.filtered_has}
use Rattle.pas_same_text.{proofs.Tests.has_filtered, specs.Classes.{free_slots, row_from, first_row}}

-- ---- places that follow each other at a step, and pass a test
all_above : (test : ℕ → Bool) (n from step low : ℕ) → low < from → AllByRecursion (λ m. low < m) (filter test (spaced from step n))
all_above test zero from step low lt = tt
all_above test (suc n) from step low lt = search (arith, all_above test n (from + step) step low (omega (arith, lt)))

rising_places : (test : ℕ → Bool) (n from step : ℕ) → 1 ≤ step → IsRising (filter test (spaced from step n))
rising_places test zero from step some = tt
rising_places test (suc n) from step some =
    let above = all_above test n (from + step) step from (omega (arith, some)) in let ih = rising_places test n (from + step) step some in search (arith, above, ih)

-- ---- those that follow each other without a break
no_row : (next step m : ℕ) (xs : List ℕ) → AllByRecursion (λ x. next < x) xs → row_from next step m xs ≡ []
no_row next step m xs all = search (arith, ne_eqb)

-- s is the i-th of n places from this one on, for an i below m, and all up to it pass
abbrev InRow : (ℕ → Bool) → ℕ → ℕ → ℕ → ℕ → ℕ → Type 0
InRow test step m n next s = (i : ℕ) × (i < m) × (i < n) × (s ≡ next + i * step) × ((j : ℕ) → j ≤ i → test (next + j * step) ≡ true)

module _ (test : ℕ → Bool) (step : ℕ) (some : 1 ≤ step) where
  abbrev places : ℕ → ℕ → List ℕ
  places from n = filter test (spaced from step n)

  first_place : (from : ℕ) → from + 0 * step ≡ from
  first_place from = omega arith

  -- the places from this one on, as it passes or not
  passing : (from n : ℕ) → test from ≡ true → places from (suc n) ≡ from ∷ places (from + step) n
  passing from n so = ap (λ (t : Bool). if t then from ∷ places (from + step) n else places (from + step) n) so

  -- A place that fails the test is passed by.
  failing : (from n : ℕ) → test from ≡ false → places from (suc n) ≡ places (from + step) n
  failing from n so = ap (λ (t : Bool). if t then from ∷ places (from + step) n else places (from + step) n) so

  -- the head of a row whose first place passes
  row_passing : (m n next s : ℕ) → test next ≡ true
      → has_number (row_from next step (suc m) (places next (suc n))) s ≡ ((next == s) || has_number (row_from (next + step) step m (places (next + step) n)) s)
  row_passing m n next s so = search (arith, passing, eq-eqb)

  -- what stands in a row of m at most is in it by this, and the other way round
  in_row : (m n next s : ℕ) → has_number (row_from next step m (places next n)) s ≡ true → InRow test step m n next s
  in_row (suc m) (suc n) next s h = elim (cases_Bool (test next)) [
    | inl so ↦ elim (or_cases (next == s) (has_number (row_from (next + step) step m (places (next + step) n)) s)
        (sym (row_passing m n next s so) ∙ h)) [
          | inl here ↦ (0, omega arith, omega arith, sym (eqb-true next s here) ∙ sym (first_place next), λ j le. ap test (at_first j le) ∙ so)
          | inr later ↦
              let o = in_row m n (next + step) s later in
              (suc o.0, omega (arith, o.1), omega (arith, o.2), o.3 ∙ next_place next step o.0, λ j le. each_one o.0 j le o.4 so)
        ]
    | inr fails ↦ absurd (false≢true (ap (λ (xs : List ℕ). has_number xs s) (sym (ap (row_from next step (suc m)) (failing next n fails) ∙ no_row next step (suc m) (places (next + step) n) (all_above test n (next + step) step next (omega (arith, some))))) ∙ h))
  ]
    where
      at_first : (j : ℕ) → j ≤ 0 → next + j * step ≡ next
      at_first zero le = first_place next
      at_first (suc j) le = absurd (omega (arith, le))

      each_one : (i j : ℕ) → j ≤ suc i → ((j : ℕ) → j ≤ i → test (next + step + j * step) ≡ true) → test next ≡ true → test (next + j * step) ≡ true
      each_one i zero le rest so = ap test (first_place next) ∙ so
      each_one i (suc j) le rest so = ap test (sym (next_place next step j)) ∙ rest j (omega (arith, le))
  in_row m n next s h = absurd (false≢true h)

  row_has : (m n next i : ℕ) → i < m → i < n → ((j : ℕ) → j ≤ i → test (next + j * step) ≡ true)
      → has_number (row_from next step m (places next n)) (next + i * step) ≡ true
  row_has zero n next i few less all = absurd (omega (arith, few))
  row_has (suc m) zero next i few less all = absurd (omega (arith, less))
  row_has (suc m) (suc n) next zero few less all =
      row_passing m n next (next + 0 * step) (ap test (sym (first_place next)) ∙ all 0 (omega arith))
      ∙ or_left (next == (next + 0 * step)) _ (eq-eqb next (next + 0 * step) (sym (first_place next)))
  row_has (suc m) (suc n) next (suc i) few less all =
      row_passing m n next (next + suc i * step) (ap test (sym (first_place next)) ∙ all 0 (omega arith))
      ∙ or_right (next == (next + suc i * step)) (has_number (row_from (next + step) step m (places (next + step) n)) (next + suc i * step))
      (ap (has_number (row_from (next + step) step m (places (next + step) n))) (sym (next_place next step i))
      ∙ row_has m n (next + step) i (omega (arith, few)) (omega (arith, less)) (λ j le. ap test (next_place next step j) ∙ all (suc j) (omega (arith, le))))

  -- ---- the places before the first that passes
  skipped : (i n rest from : ℕ) → i + rest ≡ n → ((j : ℕ) → j < i → test (from + j * step) ≡ false) → places from n ≡ places (from + i * step) rest
  skipped zero n rest from is before = ap (places from) (omega (arith, is)) ∙ ap (λ (x : ℕ). places x rest) (sym (first_place from))
  skipped (suc i) zero rest from is before = absurd (omega (arith, is))
  skipped (suc i) (suc n) rest from is before =
      failing from n (ap test (sym (first_place from)) ∙ before 0 (omega arith))
      ∙ (skipped i n rest (from + step) (omega (arith, is)) (λ j lt. ap test (next_place from step j) ∙ before (suc j) (omega (arith, lt)))
      ∙ ap (λ (x : ℕ). places x rest) (next_place from step i))

  -- the row begins with it
  first_row_is : (from n : ℕ) → 1 ≤ n → test from ≡ true → first_row step (places from n) ≡ row_from from step 4 (places from n)
  first_row_is from n less so = search (arith, passing)

-- ---- a row rises
all_row : (P : ℕ → Type 0) (step m next : ℕ) (xs : List ℕ) → AllByRecursion P xs → AllByRecursion P (row_from next step m xs)
all_row P step (suc m) next (x ∷ xs) all = search (arith, all_row P step m (next + step) xs all.1)
all_row P step m next xs all = tt

rising_row : (step m next : ℕ) (xs : List ℕ) → IsRising xs → IsRising (row_from next step m xs)
rising_row step (suc m) next (x ∷ xs) rising = search (arith, all_row, rising_row step m (next + step) xs rising.1)
rising_row step m next xs rising = tt

-- ---- THE SLOTS of the text are the bits of a mask
module _ (f : Profile) (p : Progress) (w : World) (valid : IsValid f) (between : IsBetween f p) (same : HasSame f p w) (class : ℕ) (is : IsClass class)
    (page : ℕ) (starts : Mask4) (none : is_guarded w page ≡ false) where
  abbrev step : ℕ
  step = class_grains class

  abbrev count : ℕ
  count = slots_of class

  abbrev test : ℕ → Bool
  test s = are_free w page s step

  abbrev IsFree : ℕ → Type 0
  IsFree s = IsFreeSlot class (free_of_page p.list page) s

  -- The step is one at least.
  some : 1 ≤ step
  some = class_grains_positive class is

  -- the i-th slot is free where it passes
  free_at : (i : ℕ) → i < count → test (i * step) ≡ true → IsFree (i * step)
  free_at i lt so = let slot = slot_there f p w valid between same class is i lt in (slot, slot_free f p w valid between same class is page _ slot none so)

  -- A free slot passes the test.
  tested : (s : ℕ) → IsFree s → test s ≡ true
  tested s free = slot_tested f p w valid between same class is page s free.0 free.1

  -- ---- of an exclusive page
  module _ (all : (s : ℕ) → IsTrue (is_set starts s) ↔ IsFree s) where
    all_to : (s : ℕ) → has_number (free_slots w class page) s ≡ true → is_set starts s ≡ true
    all_to s h =
        let o = filtered_has test (spaced 0 step count) s h in
        let i = from_spaced (λ m. m == s) count 0 step o.1 in
        let at : i.0 * step ≡ s = omega (arith, eqb-true (0 + i.0 * step) s i.2) in
        (all s).1 (subst IsFree at (free_at i.0 i.1 (ap test at ∙ o.0)))

    -- All slots that a search took of an exclusive page are those that the text takes of it.
    pub all_taken : (s : ℕ) → has_number (slots_for false w class page) s ≡ is_set starts s
    all_taken s = same_truth (has_number (free_slots w class page) s) (is_set starts s) (all_to s) (λ set. let free = (all s).0 set in
        let i = slot_index f p w valid between same class is s free.0 in
        let at : 0 + i.0 * step ≡ s = omega (arith, i.2) in
        has_filtered test (spaced 0 step count) s (tested s free) (ap (has_number (spaced 0 step count)) (sym at)
        ∙ in_spaced (λ m. m == (0 + i.0 * step)) count 0 step i.0 i.1 (eq-eqb (0 + i.0 * step) (0 + i.0 * step) refl)))

  -- ---- of a shared page
  module _ (row : IsLowestRow class (free_of_page p.list page) starts) where
    abbrev index : ℕ
    index = (slot_index f p w valid between same class is row.first row.free.0).0

    -- The slot's number is below the number of slots.
    below : index < count
    below = (slot_index f p w valid between same class is row.first row.free.0).1

    at_first : index * step ≡ row.first
    at_first = (slot_index f p w valid between same class is row.first row.free.0).2

    abbrev left : ℕ
    left = count - index

    -- no slot before it is free
    none_before : (j : ℕ) → j < index → test (0 + j * step) ≡ false
    none_before j lt =
        false_from_ne_true (test (0 + j * step)) (λ so.
        let next : suc j * step ≤ index * step = mul-le-mul_right step lt in
        let m = suc-mul j step in
        row.lowest (j * step) (omega (arith, next, m, at_first, some)) (free_at j (omega (arith, lt, below)) (ap test (sym (omega arith)) ∙ so)))

    slots_are : slots_for true w class page ≡ row_from row.first step 4 (filter test (spaced row.first step left))
    slots_are =
        let few = below in
        let place : 0 + index * step ≡ row.first = omega (arith, at_first) in
        ap (first_row step) (skipped test step some index count left 0 (omega (arith, few)) none_before ∙ ap (λ (x : ℕ). filter test (spaced x step left)) place)
        ∙ first_row_is test step some row.first left (omega (arith, few)) (tested row.first row.free)

    -- the i-th slot behind it
    behind : (i : ℕ) → row.first + i * step ≡ (index + i) * step
    behind i = let sum = add-mul index i step in omega (arith, at_first, sum)

    index_of : (i s : ℕ) → s ≡ row.first + i * step → IsFree s → i < left
    index_of i s at free =
        let o = slot_index f p w valid between same class is s free.0 in
        let is_index : o.0 ≡ index + i = same_times o.0 (index + i) (o.2 ∙ (at ∙ behind i)) in
        omega (arith, o.1, is_index, below)
      where
        same_times : (a b : ℕ) → a * step ≡ b * step → a ≡ b
        same_times a b e = sym (mul-div_cancel a some) ∙ (ap (λ (x : ℕ). x / step) e ∙ mul-div_cancel b some)

    abbrev row_left : List ℕ
    row_left = row_from row.first step 4 (filter test (spaced row.first step left))

    row_to : (s : ℕ) → has_number row_left s ≡ true → is_set starts s ≡ true
    row_to s h =
        let o = in_row test step some 4 left row.first s h in
        (row.are s).1 (o.0, o.1, o.3, λ j le. rw behind (free_at (index + j) (omega (arith, le, o.2, below)) (ap test (sym (behind j)) ∙ o.4 j le)))

    -- The row of slots that a search took of a shared page is that which the text takes of it.
    pub row_taken : (s : ℕ) → has_number (slots_for true w class page) s ≡ is_set starts s
    row_taken s = ap (λ (xs : List ℕ). has_number xs s) slots_are
        ∙ same_truth (has_number row_left s) (is_set starts s) (row_to s) (λ set. let o = (row.are s).0 set in
        let this : IsFree s = subst IsFree (sym o.2) (o.3 o.0 (omega arith)) in
        ap (has_number row_left) o.2 ∙ row_has test step some 4 left row.first o.0 o.1 (index_of o.0 s o.2 this) (λ j le. tested _ (o.3 j le)))

  -- the slots rise
  pub slots_rise : (shared : Bool) → IsRising (slots_for shared w class page)
  slots_rise shared = search (arith, (rising_places test count 0 step some), rising_row)
