-- Masks that are moved, joined and spread.
use Rattle.std.proofs.Common.{◌≡◌, ℕ, ◌+◌, ◌-◌, ◌*◌, ◌/◌, ◌%◌, ◌^◌, ◌<◌, ◌≤◌, ◌==◌, ◌↔◌, nat_le, IsTrue, Bool, true, false, ◌&&◌, ◌||◌, if◌then◌else◌, [], ◌∷◌}
use Rattle.std.proofs.Common.{length, slice_index, refl, ap, sym, ◌∙◌, subst, arith, bit_or, inl, inr, lt-ltb, le-ltb, le-leb, div-add-mod', shr-shr, pow_pos}
use Rattle.std.proofs.lemmas.{Bool.{cases_lt, cases_Bool, and_parts, lt-leb, or_left, or_right, and_left, Decides.nat_tests}, List.get_or_past}
use Rattle.std.{proofs.{lemmas.Nat.Bits.{bit_at-zero, bit_at_above, bit_at_cat_low, bit_at_cat_high}, Math.Bool.or-false}, specs.Int.bit_at}
use Rattle.pas_bits.{specs.{Bits.has_bit, declared.mask.Mask4.Mask4, Masks.{is_set, AreSet, IsNear, bit_of_two}}, proofs.Words.{is_zero, none_of_zero}}
use Rattle.pas_bits.proofs.Words.{bit_of_or, at_word, none_past, four_words}

-- ---- bits of a word that was moved
bit_of_mod : (n w i : ℕ) → i < w → bit_at (n % 2 ^ w) i ≡ bit_at n i
bit_of_mod n w i h = sym (bit_at_cat_low (n / 2 ^ w) w (n % 2 ^ w) i h) ∙ ap (λ m. bit_at m i) (div-add-mod' n (2 ^ w))

shifted_below : (m k i : ℕ) → i < 64 → i < k → has_bit (m * 2 ^ k % 2 ^ 64) i ≡ false
shifted_below m k i h lt = is_zero (m * 2 ^ k % 2 ^ 64) i (bit_of_mod (m * 2 ^ k) 64 i h ∙ ap (λ n. bit_at n i) (omega arith) ∙ bit_at_cat_low m k 0 i lt ∙ bit_at-zero i)

shifted_above : (m k i : ℕ) → i < 64 → k ≤ i → has_bit (m * 2 ^ k % 2 ^ 64) i ≡ has_bit m (i - k)
shifted_above m k i h ge = ap (λ x. x == 1) (bit_of_mod (m * 2 ^ k) 64 i h ∙ ap (λ n. bit_at n i) (omega arith) ∙ bit_at_cat_high m k 0 i (pow_pos k) ge)

shifted_down : (n k i : ℕ) → has_bit (n / 2 ^ k) i ≡ has_bit n (k + i)
shifted_down n k i = ap (λ m. m % 2 == 1) (shr-shr n k i)

-- .. by one place, and by k more
abbrev shifted_twice : ℕ → ℕ → ℕ
shifted_twice m k = m * 2 ^ 1 % 2 ^ 64 * 2 ^ k % 2 ^ 64

twice_above : (m k i : ℕ) → i < 64 → k < i → has_bit (shifted_twice m k) i ≡ has_bit m (i - k - 1)
twice_above m k i h gt = shifted_above (m * 2 ^ 1 % 2 ^ 64) k i h (omega (arith, gt)) ∙ shifted_above m 1 (i - k) (omega (arith, h)) (omega (arith, gt))

-- 64 bits of two words, from one of the lower word's on
pub window_bit : (low high from b : ℕ) → low < 2 ^ 64 → from < 64 → b < 64
    → has_bit (bit_or (low / 2 ^ from) (shifted_twice high (63 - from))) b ≡ bit_of_two low high (b + from)
window_bit low high from b fits few h = bit_of_or (low / 2 ^ from) (shifted_twice high (63 - from)) b ∙ elim (cases_lt (b + from) 64) [
  | inl lt ↦
      ap (λ t. has_bit (low / 2 ^ from) b || t) (search (arith, cases_lt, shifted_below, shifted_above)) ∙ or-false (has_bit (low / 2 ^ from) b)
      ∙ shifted_down low from b ∙ ap (has_bit low) (omega arith)
      ∙ sym (ap (λ t. if t then has_bit low (b + from) else has_bit high (b + from - 64)) (lt-ltb (b + from) 64 lt))
  | inr ge ↦
      let past : has_bit low (from + b) ≡ false = is_zero low (from + b) (bit_at_above low 64 (from + b) fits (omega (arith, ge))) in
      ap (λ x. x || has_bit (shifted_twice high (63 - from)) b) (shifted_down low from b ∙ past)
      ∙ twice_above high (63 - from) b h (omega (arith, ge, few))
      ∙ ap (has_bit high) (let e : b - (63 - from) - 1 ≡ b + from - 64 = omega (arith, ge, few) in e)
      ∙ sym (ap (λ t. if t then has_bit low (b + from) else has_bit high (b + from - 64)) (le-ltb (b + from) 64 ge))
]

-- ---- two neighbouring words of a mask
two_words : (mask : Mask4) (i j : ℕ) → j < 128 → bit_of_two (slice_index mask.0 i) (slice_index mask.0 (i + 1)) j ≡ is_set mask (64 * i + j)
two_words mask i j h = search (arith, cases_lt, lt-ltb, at_word, le-ltb)

abbrev pub Window : ℕ → ℕ → ℕ → ℕ → Type 0
Window r low high from = (b : ℕ) → b < 64 → has_bit r b ≡ bit_of_two low high (b + from)

window_of : (mask : Mask4) (r i from to : ℕ) → Window r (slice_index mask.0 i) (slice_index mask.0 (i + 1)) from → from < 64 → (x : ℕ) → x < 64
    → 64 * i + (x + from) ≡ to → has_bit r x ≡ is_set mask to
window_of mask r i from to w few x h e = w x h ∙ two_words mask i (x + from) (omega (arith, h, few)) ∙ ap (is_set mask) e

abbrev pub four : ℕ → ℕ → ℕ → ℕ → Mask4
four a b c d = record { 0 = a ∷ b ∷ c ∷ d ∷ [] }

-- A mask each of whose words is the window of two is the mask moved down.
pub moved_down_is : (mask : Mask4) (a b c d by : ℕ) → length mask.0 ≡ 4 → by < 64 → Window a (slice_index mask.0 0) (slice_index mask.0 1) by
    → Window b (slice_index mask.0 1) (slice_index mask.0 2) by
    → Window c (slice_index mask.0 2) (slice_index mask.0 3) by → Window d (slice_index mask.0 3) 0 by → (g : ℕ)
    → is_set (four a b c d) g ≡ is_set mask (g + by)
moved_down_is mask a b c d by long few wa wb wc wd g = elim (cases_lt g 256) [
  | inl lt ↦
      let last : Window d (slice_index mask.0 3) (slice_index mask.0 4) by = subst (λ n. Window d (slice_index mask.0 3) n by) (sym (get_or_past mask.0 4 0 (omega (arith, long)))) wd in
      four_words a b c d (λ x. is_set mask (x + by))
      (λ x h. window_of mask a 0 by (0 + x + by) wa few x h (omega arith))
      (λ x h. window_of mask b 1 by (64 + x + by) wb few x h (omega arith))
      (λ x h. window_of mask c 2 by (128 + x + by) wc few x h (omega arith))
      (λ x h. window_of mask d 3 by (192 + x + by) last few x h (omega arith)) g lt
  | inr ge ↦ none_past (four a b c d) g refl ge ∙ sym (none_past mask (g + by) long (omega (arith, ge)))
]

from_above : (t : Bool) (x y : Bool) → t ≡ true → y ≡ x → y ≡ (t && x)
from_above t x y h e = e ∙ ap (λ s. s && x) (sym h)

-- a word above the lowest is moved up with the bits of the one below it
moved_word : (mask : Mask4) (r i by : ℕ) → Window r (slice_index mask.0 i) (slice_index mask.0 (i + 1)) (64 - by) → 1 ≤ by → by ≤ 64 → (x : ℕ) → x < 64
    → has_bit r x ≡ (nat_le by (64 * (i + 1) + x) && is_set mask (64 * (i + 1) + x - by))
moved_word mask r i by w some few x h = from_above (nat_le by (64 * (i + 1) + x)) (is_set mask (64 * (i + 1) + x - by)) (has_bit r x) (le-leb by
    (64 * (i + 1) + x) (omega (arith, few))) (window_of mask r i (64 - by) (64 * (i + 1) + x - by) w (omega (arith, some)) x h (omega (arith, some, few)))

lowest_word : (mask : Mask4) (r by : ℕ) → Window r 0 (slice_index mask.0 0) (64 - by) → 1 ≤ by → by ≤ 64 → (x : ℕ) → x < 64
    → has_bit r x ≡ (nat_le by x && is_set mask (x - by))
lowest_word mask r by w some few x h = elim (cases_lt x by) [
  | inl lt ↦ search (arith, lt-ltb, none_of_zero, and_left, lt-leb)
  | inr ge ↦ from_above (nat_le by x) (is_set mask (x - by)) (has_bit r x) (le-leb by x ge)
      (w x h
      ∙ ap (λ t. if t then has_bit 0 (x + (64 - by)) else has_bit (slice_index mask.0 0) (x + (64 - by) - 64)) (le-ltb (x + (64 - by)) 64 (omega (arith, ge, few)))
      ∙ ap (has_bit (slice_index mask.0 0)) (let e : x + (64 - by) - 64 ≡ x - by = omega (arith, ge, few) in e)
      ∙ sym (at_word mask 0 (x - by) (omega (arith, h))) ∙ ap (is_set mask) (let e : 64 * 0 + (x - by) ≡ x - by = omega arith in e))
]

-- A mask each of whose words is the window of two is the mask moved up.
pub moved_up_is : (mask : Mask4) (a b c d by : ℕ) → 1 ≤ by → by ≤ 64 → Window a 0 (slice_index mask.0 0) (64 - by)
    → Window b (slice_index mask.0 0) (slice_index mask.0 1) (64 - by)
    → Window c (slice_index mask.0 1) (slice_index mask.0 2) (64 - by) → Window d (slice_index mask.0 2) (slice_index mask.0 3) (64 - by) → (g : ℕ) → g < 256
    → is_set (four a b c d) g ≡ (nat_le by g && is_set mask (g - by))
moved_up_is mask a b c d by some few wa wb wc wd g h =
    four_words a b c d (λ x. nat_le by x && is_set mask (x - by))
    (λ x lt. lowest_word mask a by wa some few x lt ∙ ap (λ y. nat_le by y && is_set mask (y - by)) (let e : x ≡ 0 + x = omega arith in e)) (λ x lt. moved_word mask b 0 by wb some few x lt) (λ x lt. moved_word mask c 1 by wc some few x lt) (λ x lt. moved_word mask d 2 by wd some few x lt) g h

-- ---- bits of two masks
-- the words of one with those of the other, by an operation that acts on each bit alone
pub words_are : (op : ℕ → ℕ → ℕ) (bit : Bool → Bool → Bool) → ((m n b : ℕ) → has_bit (op m n) b ≡ bit (has_bit m b) (has_bit n b)) → bit false false ≡ false
    → (m n : Mask4) → length m.0 ≡ 4 → length n.0 ≡ 4 → (g : ℕ)
    → is_set (four (op (slice_index m.0 0) (slice_index n.0 0)) (op (slice_index m.0 1) (slice_index n.0 1)) (op (slice_index m.0 2) (slice_index n.0 2))
    (op (slice_index m.0 3) (slice_index n.0 3))) g
    ≡ bit (is_set m g) (is_set n g)
words_are op bit bits none m n long_m long_n g =
    let word = λ (w x : ℕ) (h : x < 64). bits (slice_index m.0 w) (slice_index n.0 w) x
    ∙ ap (λ t. bit t (has_bit (slice_index n.0 w) x)) (sym (at_word m w x h)) ∙ ap (bit (is_set m (64 * w + x))) (sym (at_word n w x h)) in
    let at = λ (w : ℕ). op (slice_index m.0 w) (slice_index n.0 w) in
    elim (cases_lt g 256) [
      | inl lt ↦ four_words (at 0) (at 1) (at 2) (at 3) (λ x. bit (is_set m x) (is_set n x)) (word 0) (word 1) (word 2) (word 3) g lt
      | inr ge ↦ none_past (four (at 0) (at 1) (at 2) (at 3)) g refl ge ∙ sym none ∙ ap (λ t. bit t false) (sym (none_past m g long_m ge)) ∙ ap (bit (is_set m g)) (sym (none_past n g long_n ge))
    ]

-- ---- runs
-- where runs of n set bits begin
abbrev pub BeginRuns : Mask4 → ℕ → Mask4 → Type 0
BeginRuns mask n begins = (g : ℕ) → IsTrue (is_set begins g) ↔ AreSet mask g n

-- Where runs of a length begin, and again so much further, longer ones begin.
pub runs_longer : (mask begins moved longer : Mask4) (n by : ℕ) → by ≤ n → BeginRuns mask n begins → ((g : ℕ) → is_set moved g ≡ is_set begins (g + by))
    → ((g : ℕ) → is_set longer g ≡ (is_set begins g && is_set moved g)) → BeginRuns mask (n + by) longer
runs_longer mask begins moved longer n by few runs down joined g = (
  search (arith, and_parts, cases_lt),
  λ all.
      cc (joined g, (runs g).1 (λ x a b. all x a (omega (arith, b))), down g, (runs (g + by)).1 (λ x a b. all x (omega (arith, a)) (omega (arith, b)))),
)

-- ---- bits that are spread
abbrev pub AreNear : Mask4 → ℕ → Mask4 → Type 0
AreNear mask n near = (g : ℕ) → g < 256 → IsTrue (is_set near g) ↔ IsNear mask g n

-- Where a bit is near in some distance, or so much further, it is near in a longer one.
pub near_longer : (mask near moved longer : Mask4) (n by : ℕ) → by ≤ n → AreNear mask n near
    → ((g : ℕ) → g < 256 → is_set moved g ≡ (nat_le by g && is_set near (g - by))) → ((g : ℕ) → is_set longer g ≡ (is_set near g || is_set moved g))
    → AreNear mask (n + by) longer
near_longer mask near moved longer n by few all up joined g within = (
  λ h. elim (cases_Bool (is_set near g)) [
    | inl here ↦ let found = (all g within).0 here in (found.0, found.1, omega (arith, found.2), found.3)
    | inr none ↦ search (arith, and_parts, nat_tests)
  ],
  λ found. let a = found.1 in let b = found.2 in elim (cases_lt g (found.0 + n)) [
    | inl lt ↦ joined g ∙ or_left (is_set near g) (is_set moved g) ((all g within).1 (found.0, found.1, lt, found.3))
    | inr ge ↦
        joined g ∙ or_right (is_set near g) (is_set moved g)
        (up g within ∙ ap (λ t. t && is_set near (g - by)) (le-leb by g (omega (arith, ge, few)))
        ∙ (all (g - by) (omega (arith, within))).1 (found.0, omega (arith, ge, few), omega (arith, b, ge), found.3))
  ],
)
