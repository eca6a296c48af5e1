-- PLACES ON A PAGE, at a step from one to the next: where a bit-fit block fits, and where a slot of a class does, in the text exactly where it does by the free
-- grains of the replay.
use Rattle.std.proofs.Common.{◌≡◌, ℕ, zero, suc, ◌+◌, ◌*◌, ◌<◌, Bool, true, false, ◌||◌, if◌then◌else◌, List, [], ◌∷◌, take, inl, inr, refl, ap, ◌∙◌, arith}
use Rattle.std.proofs.{Common.{◌/◌, ◌%◌, ◌≤◌, ◌==◌, nat_le, nat_lt, not, ◌&&◌, sym, true≢false, eq-eqb, eqb-true}, Math.Nat.{mul-mod_left, mod-add-div'}}
use Rattle.std.proofs.lemmas.Nat.{div_below, mul-le}
use Rattle.pas_profile.{specs.Classes.IsAlignment, proofs.Sizes.passes_at}
use Rattle.pas_same_text.proofs.{FreeGrains.{bit_unguarded, bit_read, read_unless}, GivenBack.{each_at, each_all}, Tests.{and_first, and_second}}
use Rattle.pas_same_text.proofs.Common.{false≢true, or_cases, or_left, or_right, and_from, false_from_ne_true, suc-mul, nat_tests, list_any, filter, some_of}
use Rattle.pas_same_text.proofs.Common.{World, is_free, are_free, is_guarded, lowest_place, HasSame, IsBetween, FitsSame, spaced, slots_for, IsClass}
use Rattle.pas_same_text.proofs.Common.{class_grains, slots_of, IsSlotStart, IsValid, Profile, class_grains_positive, usable_grains_le, slot_end, Readings}
use Rattle.pas_same_text.proofs.Common.{free_of_page, run_for, Fits, NoneFits, IsLowestFit, Progress, NoSlot}
use Rattle.pas_bits.specs.Runs.{AreFree}
use Rattle.pas_bitfit.proofs.Aligned.{or_last}

-- Some numbers of a list pass a test exactly where the filtered list has any.
some_filtered : (test : ℕ → Bool) (xs : List ℕ) → some_of (filter test xs) ≡ list_any test xs
some_filtered test [] = refl
some_filtered test (x ∷ xs) = let ih = some_filtered test xs in grind (arith, ih)

-- the i-th of them
pub next_place : (from step i : ℕ) → from + step + i * step ≡ from + suc i * step
next_place from step i = let m = suc-mul i step in omega (arith, m)

-- A place at a step that passes a test is found among the spaced ones.
pub in_spaced : (test : ℕ → Bool) (n from step i : ℕ) → i < n → test (from + i * step) ≡ true → list_any test (spaced from step n) ≡ true
in_spaced test zero from step i lt h = absurd (omega (arith, lt))
in_spaced test (suc n) from step zero lt h = or_left (test from) (list_any test (spaced (from + step) step n)) (ap test (omega arith) ∙ h)
in_spaced test (suc n) from step (suc i) lt h = search (arith, or_right, in_spaced test n _ step i (omega (arith, lt)) (ap test (next_place from step i) ∙ h))

-- Where some spaced place passes a test, it is one of those at the step.
pub from_spaced : (test : ℕ → Bool) (n from step : ℕ) → list_any test (spaced from step n) ≡ true → (i : ℕ) × (i < n) × (test (from + i * step) ≡ true)
from_spaced test zero from step h = absurd (false≢true h)
from_spaced test (suc n) from step h = elim (or_cases (test from) (list_any test (spaced (from + step) step n)) h) [
  | inl here ↦ (0, omega arith, ap test (omega arith) ∙ here)
  | inr later ↦
      let o = from_spaced test n (from + step) step later in
      (suc o.0, omega (arith, o.1), ap test (omega (arith, suc-mul o.0 step)) ∙ o.2)
]

-- the first that passes, where the i-th does and none before it
-- by the numbers of places before it, none of which passes
first_spaced : (test : ℕ → Bool) (n from step i : ℕ) → i < n → test (from + i * step) ≡ true → ((j : ℕ) → j < i → test (from + j * step) ≡ false)
    → take 1 (filter test (spaced from step n)) ≡ (from + i * step) ∷ []
first_spaced test zero from step i lt h before = absurd (omega (arith, lt))
first_spaced test (suc n) from step zero lt h before = search arith
first_spaced test (suc n) from step (suc i) lt h before =
    ap (λ (t : Bool). take 1 (if t then from ∷ filter test (spaced (from + step) step n) else filter test (spaced (from + step) step n)))
    (ap test (omega arith) ∙ before 0 (omega arith))
    ∙ (first_spaced test n _ step i (omega (arith, lt)) (ap test (next_place from step i) ∙ h)
    (λ j small. ap test (next_place from step j) ∙ before (suc j) (omega (arith, small)))
    ∙ ap (λ (x : ℕ). x ∷ []) (next_place from step i))

-- ==== WHERE A BIT-FIT BLOCK FITS on a page: in the text exactly where it does by the free grains of the replay.
-- ---- an alignment splits a page
abbrev splits : ℕ → Bool
splits a = nat_lt a 16 || not (4096 % a == 0) || (256 / (a / 16) * (a / 16) == 256)

page_splits : (align : ℕ) → IsAlignment align → 256 / (align / 16) * (align / 16) ≡ 256
page_splits align is =
    let low = is.0 in let high = is.1 in
    eqb-true _ 256
    (or_last (nat_lt align 16) (4096 % align == 0) _ (passes_at splits 4097 align refl (omega (arith, high))) (grind (arith, low)) (eq-eqb _ 0 is.2))

module _ (f : Profile) (p : Progress) (w : World) (valid : IsValid f) (between : IsBetween f p) (same : HasSame f p w) (room align : ℕ) (some : 1 ≤ room / 16)
    (is : IsAlignment align) where
  abbrev n : ℕ
  n = room / 16

  abbrev step : ℕ
  step = align / 16

  abbrev test : ℕ → ℕ → Bool
  test page s = nat_le (s + n) 256 && are_free w page s n

  -- a page on which it fits is no keeper's
  fits_unguarded : (page s : ℕ) → Fits (run_for room align) (free_of_page p.list page) s → is_guarded w page ≡ false
  fits_unguarded page s fits =
      let within = fits.within in
      bit_unguarded f p w valid between same page s (omega (arith, within, some)) (bit_read p.list page s ∙ fits.free s (omega arith) (omega (arith, some)))

  test_fits : (page s : ℕ) → is_guarded w page ≡ false → s % step ≡ 0 → test page s ≡ true → Fits (run_for room align) (free_of_page p.list page) s
  test_fits page s none aligned h =
      let within : s + n ≤ 256 = let t = and_first (nat_le (s + n) 256) (are_free w page s n) h in grind (arith, nat_tests, t) in
      record {
        aligned = aligned;
        within = within;
        free =
            λ g low high. cc (
              read_unless f p w valid between same page g (omega (arith, within, high)) none,
              each_at n s g
                  (is_free w page) (and_second (nat_le (s + n) 256) (are_free w page s n) h) low high,
            );
      }

  fits_test : (page s : ℕ) → Fits (run_for room align) (free_of_page p.list page) s → test page s ≡ true
  fits_test page s fits =
      let within = fits.within in
      and_from _ _ (grind (arith, nat_tests, within))
      (each_all n s (is_free w page)
      (λ b low high. read_unless f p w valid between same page b (omega (arith, high, within)) (fits_unguarded page s fits) ∙ fits.free b low high))

  -- A run for a bit-fit request fits on an unguarded page in the text exactly where it does by the replay's free grains.
  pub bitfit_fits : FitsSame (NoneFits (run_for room align)) f p w (lowest_place w n step)
  bitfit_fits = record {
    none = λ page of unguarded none. false_from_ne_true (some_of (lowest_place w n step page)) (λ h.
        let o = from_spaced (test page) (256 / step) 0 step (sym ((grind arith) ∙ some_filtered (test page) (spaced 0 step (256 / step))) ∙ h) in
        none (0 + o.0 * step) (test_fits page (0 + o.0 * step) unguarded (ap (λ (x : ℕ). x % step) (omega arith) ∙ mul-mod_left o.0 step) o.2));
    some = λ page of unguarded fits. (grind arith) ∙ some_filtered (test page) (spaced 0 step (256 / step))
        ∙ by_test page fits (list_any (test page) (spaced 0 step (256 / step))) refl;
  }
    where
      by_test : (page : ℕ) → (NoneFits (run_for room align) (free_of_page p.list page) → ⊥) → (t : Bool) → list_any (test page) (spaced 0 step (256 / step)) ≡ t
          → t ≡ true
      by_test page fits true e = refl
      by_test page fits false e = absurd (fits (λ g at. true≢false (sym (search (arith, mod-add-div', page_splits, div_below, in_spaced, fits_test)) ∙ e)))

  -- THE PLACE: where the lowest run among some readings is free, and what is free was read as free, it is the one of the text
  pub lowest_is : (page first : ℕ) (r : Readings) → IsLowestFit (run_for room align) r first
      → ((b : ℕ) → b < 256 → free_of_page p.list page b ≡ true → r b ≡ true) → Fits (run_for room align) (free_of_page p.list page) first
      → lowest_place w n step page ≡ first ∷ []
  lowest_is page first r lowest more fits =
      let times : first / step * step ≡ first = let m = mod-add-div' first step in omega (arith, m, fits.aligned) in
      let lt : first / step < 256 / step = div_below first step (256 / step) (omega (arith, is.0)) (omega (arith, (page_splits align is), fits.within, some)) in
      first_spaced (test page) _ 0 step _ lt (ap (test page) (omega (arith, times)) ∙ fits_test page first fits) (λ j small. lower j small times)
      ∙ ap (λ (x : ℕ). x ∷ []) (omega (arith, times))
    where
      lower : (j : ℕ) → j < first / step → first / step * step ≡ first → test page (0 + j * step) ≡ false
      lower j small times = false_from_ne_true _ (λ h.
          let this : Fits (run_for room align) (free_of_page p.list page) (0 + j * step) =
          test_fits page _ (fits_unguarded page first fits) (ap (λ (x : ℕ). x % step) (omega arith) ∙ mul-mod_left j step) h in
          let m = suc-mul j step in
          lowest.lowest (0 + j * step) (omega (arith, (mul-le (suc j) step (first / step) step (omega (arith, small)) (omega arith)), m, times, is.0))
          (record { aligned = this.aligned; within = this.within; free = λ b from to. more b (omega (arith, this.within, to)) (this.free b from to) }))

-- ==== WHETHER A SLOT OF A CLASS FITS on a page: in the text exactly where it does by the free grains of the replay.

module _ (f : Profile) (p : Progress) (w : World) (valid : IsValid f) (between : IsBetween f p) (same : HasSame f p w) (class : ℕ) (is : IsClass class) where
  abbrev slot_grains : ℕ
  slot_grains = class_grains class

  abbrev fits_at : ℕ → ℕ → Bool
  fits_at page s = are_free w page s slot_grains

  some_grains : 1 ≤ slot_grains
  some_grains = class_grains_positive class is

  -- a page with a free grain is no keeper's
  pub read_unguarded : (page b : ℕ) → b < 256 → free_of_page p.list page b ≡ true → is_guarded w page ≡ false
  read_unguarded page b small free = bit_unguarded f p w valid between same page b small (bit_read p.list page b ∙ free)

  some_slot : (shared : Bool) (page : ℕ) → some_of (slots_for shared w class page) ≡ list_any (fits_at page) (spaced 0 slot_grains (slots_of class))
  some_slot shared page = (search (arith, eq-eqb)) ∙ some_filtered (fits_at page) (spaced 0 slot_grains (slots_of class))

  -- a slot of the list is one of the class, and the other way round
  -- a multiple of the step that ends within the slots
  pub slot_there : (i : ℕ) → i < slots_of class → IsSlotStart class (i * slot_grains)
  slot_there i lt = search arith

  -- The start of a slot is a number of whole steps of its class, below the number of slots.
  pub slot_index : (s : ℕ) → IsSlotStart class s → (i : ℕ) × (i < slots_of class) × (i * slot_grains ≡ s)
  slot_index s slot =
      let times : s / slot_grains * slot_grains ≡ s = let m = mod-add-div' s slot_grains in omega (arith, m, slot.aligned) in
      (s / slot_grains, div_below s slot_grains (slots_of class) (omega (arith, some_grains)) (omega (arith, slot.within, some_grains)), times)

  -- it is free in the text exactly where its grains are in the replay
  pub slot_tested : (page s : ℕ) → IsSlotStart class s → AreFree (free_of_page p.list page) s slot_grains → fits_at page s ≡ true
  slot_tested page s slot free =
      let within = slot.within in
      let most = usable_grains_le class is in
      let some = some_grains in
      let none : is_guarded w page ≡ false = read_unguarded page s (omega (arith, within, most, some)) (free s (omega arith) (omega (arith, some))) in
      each_all slot_grains s (is_free w page) (λ b low high. read_unless f p w valid between same page b (omega (arith, high, within, most)) none ∙ free b low high)

  -- A place that the text's test passes on an unguarded page is one whose grains the replay reads as free.
  pub slot_free : (page s : ℕ) → IsSlotStart class s → is_guarded w page ≡ false → fits_at page s ≡ true → AreFree (free_of_page p.list page) s slot_grains
  slot_free page s slot none tested b low high =
      let within = slot_end class s is slot in
      sym (read_unless f p w valid between same page b (omega (arith, within, high)) none) ∙ each_at slot_grains s b (is_free w page) tested low high

  -- A free slot is found among the slots of its class.
  there : (page s : ℕ) → IsSlotStart class s → AreFree (free_of_page p.list page) s slot_grains
      → list_any (fits_at page) (spaced 0 slot_grains (slots_of class)) ≡ true
  there page s slot free =
      let o = slot_index s slot in
      in_spaced (fits_at page) (slots_of class) 0 slot_grains o.0 o.1 (ap (fits_at page) (omega (arith, o.2)) ∙ slot_tested page s slot free)

  -- A slot of a class fits on an unguarded page in the text exactly where one does by the replay's free grains.
  pub class_fits : (shared : Bool) → FitsSame (NoSlot class) f p w (slots_for shared w class)
  class_fits shared = record {
    none = λ page of unguarded none. false_from_ne_true (some_of (slots_for shared w class page)) (λ h.
        let o = from_spaced (fits_at page) (slots_of class) 0 slot_grains (sym (some_slot shared page) ∙ h) in
        none (o.0 * slot_grains) (slot_there o.0 o.1) (slot_free page (o.0 * slot_grains) (slot_there o.0 o.1) unguarded (ap (fits_at page) (omega arith) ∙ o.2)));
    some = λ page of unguarded fits. some_slot shared page ∙ by_test page fits (list_any (fits_at page) (spaced 0 slot_grains (slots_of class))) refl;
  }
    where
      by_test : (page : ℕ) → (NoSlot class (free_of_page p.list page) → ⊥) → (t : Bool) → list_any (fits_at page) (spaced 0 slot_grains (slots_of class)) ≡ t
          → t ≡ true
      by_test page fits true e = refl
      by_test page fits false e = absurd (fits (λ s slot free. true≢false (sym (there page s slot free) ∙ e)))
