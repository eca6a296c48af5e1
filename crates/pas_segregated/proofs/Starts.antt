-- The slots of a class in a mask.
use Rattle.std.proofs.Common.{◌≡◌, ℕ, ◌+◌, ◌-◌, ◌/◌, ◌%◌, ◌<◌, ◌≤◌, ◌==◌, ◌↔◌, nat_le, IsTrue, Bool, true, false, ◌&&◌, List, length, slice_index, get_or, ap}
use Rattle.std.proofs.{Common.{sym, ◌∙◌, arith, inl, inr, eqb-true, eq-eqb, leb-true, le-leb, div-add-mod'}, lemmas.Bool.{agree_below, agree_below_at}}
use Rattle.std.proofs.{lemmas.{Bool.{and_parts, and_from, lt-leb, cases_lt, and_right, false_from_ne_true}, Nat.same_from_place}, Math.Nat.mod-lt}
use Rattle.pas_profile.{specs.Classes.{IsClass, class_grains, usable_grains, IsSlotStart}, proofs.Sizes.{of_each_class, class_passes, class_grains_positive}}
use Rattle.pas_profile.proofs.Sizes.{usable_grains_le, slot_end}
use Rattle.pas_bits.{specs.{Bits.has_bit, Masks.{is_set, AreSet, IsNear}, declared.mask.Mask4.Mask4}, proofs.Words.none_past}
use Rattle.pas_steps.proofs.Sets.{same_truth}
use Rattle.pas_segregated.specs.Masks.{is_start, start_of, AreStarts}

-- ---- the first grains of all slots
start_is : (class g : ℕ) → is_start class g ≡ true → IsSlotStart class g
start_is class g h =
    let parts = and_parts (g % class_grains class == 0) (nat_le (g + class_grains class) (usable_grains class)) h in
    record { aligned = eqb-true (g % class_grains class) 0 parts.0; within = leb-true (g + class_grains class) (usable_grains class) parts.1 }

is_start-from : (class g : ℕ) → IsSlotStart class g → is_start class g ≡ true
is_start-from class g s = and_from (g % class_grains class == 0) (nat_le (g + class_grains class) (usable_grains class))
    (eq-eqb (g % class_grains class) 0 s.aligned) (le-leb (g + class_grains class) (usable_grains class) s.within)

-- no slot begins past the page
none_begins : (class g : ℕ) → IsClass class → 256 ≤ g → is_start class g ≡ false
none_begins class g is ge = and_right (g % class_grains class == 0) (nat_le (g + class_grains class) (usable_grains class)) (let some = class_grains_positive class is in let few = usable_grains_le class is in lt-leb (g + class_grains class) (usable_grains class) (omega (arith, some, few, ge)))

-- a table of masks, computed class by class
abbrev pub agrees : List (List ℕ) → List ℕ → ℕ → Bool
agrees table default class = agree_below (λ g. has_bit (slice_index (get_or table class default) (g / 64)) (g % 64)) (is_start class) 256

abbrev pub row : List (List ℕ) → List ℕ → ℕ → Mask4
row table default class = record { 0 = get_or table class default }

-- The rows of a table that agrees with the classes are the starts of their slots.
pub table_bits : (table : List (List ℕ)) (default : List ℕ) → of_each_class (agrees table default) ≡ true
    → of_each_class (λ class. length (get_or table class default) == 4) ≡ true
    → (class : ℕ) → IsClass class → (g : ℕ) → is_set (row table default class) g ≡ is_start class g
table_bits table default computed sized class is g = elim (cases_lt g 256) [
  | inl lt ↦ agree_below_at (λ g. has_bit (slice_index (get_or table class default) (g / 64)) (g % 64)) (is_start class) 256 g (class_passes (agrees table default) computed class is) lt
  | inr ge ↦ none_past (row table default class) g (eqb-true (length (get_or table class default)) 4
      (class_passes (λ class. length (get_or table class default) == 4) sized class is)) ge ∙ sym (none_begins class g is ge)
]

-- ---- whole slots
pub whole_is : (class : ℕ) (mask begins starts whole : Mask4) → ((g : ℕ) → IsTrue (is_set begins g) ↔ AreSet mask g (class_grains class))
    → ((g : ℕ) → is_set starts g ≡ is_start class g) → ((g : ℕ) → is_set whole g ≡ (is_set begins g && is_set starts g))
    → (g : ℕ) → IsTrue (is_set whole g) ↔ (IsSlotStart class g × AreSet mask g (class_grains class))
whole_is class mask begins starts whole runs all joined g = search (arith, and_parts, start_is, and_from, is_start-from)

-- ---- the grains of slots
-- a slot that covers the grain begins at the multiple of the class's grains that is next below it
pub start_at : (class s g : ℕ) → IsSlotStart class s → s ≤ g → g < s + class_grains class → start_of class g ≡ s
start_at class s g slot low high =
    search (arith, div-add-mod', mod-lt, same_from_place)

-- A grain lies in the slot that covers it.
pub start_below : (class g : ℕ) → IsClass class → (start_of class g ≤ g) × (g < start_of class g + class_grains class)
start_below class g is =
    search (arith, class_grains_positive, div-add-mod', mod-lt)

-- A mask near the starts of slots covers just their grains.
pub covered_is : (class : ℕ) (starts near : Mask4) → IsClass class → length near.0 ≡ 4 → AreStarts class starts
    → ((g : ℕ) → g < 256 → IsTrue (is_set near g) ↔ IsNear starts g (class_grains class)) → (g : ℕ) → is_set near g ≡ is_set starts (start_of class g)
covered_is class starts near is long all spread g = elim (cases_lt g 256) [
  | inl lt ↦ same_truth (is_set near g) (is_set starts (start_of class g))
      (λ h. let found = (spread g lt).0 h in ap (is_set starts) (start_at class found.0 g (all found.0 found.3) found.1 found.2) ∙ found.3)
      (λ h. let at = start_below class g is in (spread g lt).1 (start_of class g, at.0, at.1, h))
  | inr ge ↦ none_past near g long ge ∙ sym (false_from_ne_true (is_set starts (start_of class g)) (λ h.
      let ends = slot_end class (start_of class g) is (all (start_of class g) h) in let at = start_below class g is in omega (arith, ends, at.1, ge)))
]
