-- Set bits of a mask, word by word: the lowest ones, those of runs, how many there are, and places of runs among them.
use Rattle.std.proofs.Common.{◌≡◌, ◌≢◌, ℕ, ◌+◌, ◌-◌, ◌/◌, ◌%◌, ◌^◌, ◌<◌, ◌≤◌, ◌==◌, true, false, inl, inr, ap, sym, ◌∙◌, arith, ◌*◌, ◌⊎◌, ◌&&◌, ◌↔◌, IsTrue}
use Rattle.std.proofs.Common.{not, min, Bool, length, slice_index, lit<, bit_and, subst, refl, Option, MatchBool, MatchOption, w64, shr-shr, pow_pos}
use Rattle.std.proofs.{Common.{div-add-mod', count_ones, bit_or, true≢false, eqb-true, eq-eqb, zero, suc}, lemmas.Bool.{cases_lt, and_parts, not-false}}
use Rattle.std.proofs.lemmas.{Bool.{not-true, Decides.nat_tests, cases_Bool, cases_eq}, Nat.{shr_le, and_le_l, same_from_place, mod-mul-add}}
use Rattle.std.proofs.lemmas.Nat.Bits.{bit_at-trailing_zeros, bit_at_above, bit_at_mask_inside, bit_at_mask_below, bit_at_mask_above, ones_shr}
use Rattle.std.{proofs.{lemmas.Grind.div_ceil_times, Math.{Nat.pow-le-pow_right, Bool.and-true}}, specs.{Int.{bit_at, trailing_zeros}, Option.is_some}}
use Rattle.pas_bits.specs.{Bits.{has_bit, count_below}, Runs.in_run, declared.mask.Mask4.Mask4, Masks.{is_set, AreSet, AreApart, set_count, AllSetBelow}}
use Rattle.pas_bits.{specs.Masks.{AreClear, IsLowestSet, IsLowestClear, IsEmpty, HasMember, IsRunEnd, IsPlace, HasNoPlace}, proofs.Words.{none_of_zero, is_one}}
use Rattle.pas_bits.proofs.{Words.{bit_of_and, by_word, at_word, set_within, WordsFit, bit_of_or}, Runs.{run_of, to_run, run_below, run_above}, Rows.count_same}
use Rattle.pas_bits.proofs.Rows.{count_add, ones_counted}

-- ==== The lowest set bit of a word from a place on.

-- bit b of the word is bit `b - low` of what is left after a shift by `low`
shifted_bit : (n low b : ℕ) → low ≤ b → bit_at n b ≡ bit_at (n / 2 ^ low) (b - low)
shifted_bit n low b le = let whole : b ≡ low + (b - low) = omega (arith, le) in ap (λ (i : ℕ). n / 2 ^ i % 2) whole ∙ ap (λ (m : ℕ). m % 2) (sym (shr-shr n low (b - low)))

-- where nothing is left, no bit is set from there on
pub none_from : (n low b : ℕ) → n / 2 ^ low ≡ 0 → low ≤ b → has_bit n b ≡ false
none_from n low b nothing le = ap (λ (m : ℕ). m == 1) (shifted_bit n low b le ∙ ap (λ (m : ℕ). bit_at m (b - low)) nothing) ∙ none_of_zero (b - low)

-- where something is left, its lowest bit is within the word, is set, and none below it is
pub record IsLowestBit (n low z : ℕ) : Type 0 where
  pub within : low + z < 64
  pub set : has_bit n (low + z) ≡ true
  pub lowest : (b : ℕ) → low ≤ b → b < low + z → has_bit n b ≡ false

-- A number whose bits from one on aren't all 0 has its lowest set bit where its trailing zeros end.
pub lowest_from : (n low : ℕ) → n < 2 ^ 64 → n / 2 ^ low ≢ 0 → IsLowestBit n low (trailing_zeros w64 (n / 2 ^ low))
lowest_from n low fits some =
    let t = bit_at-trailing_zeros w64 (n / 2 ^ low) (omega (arith, some)) (omega (arith, shr_le n low, fits)) in
    let z = trailing_zeros w64 (n / 2 ^ low) in
    let one : bit_at n (low + trailing_zeros w64 (n / 2 ^ low)) ≡ 1 = shifted_bit n low (low + trailing_zeros w64 (n / 2 ^ low)) (omega arith) ∙ ap (λ (i : ℕ). bit_at (n / 2 ^ low) i) (omega arith) ∙ t.1 in
    record {
      within = elim (cases_lt (low + trailing_zeros w64 (n / 2 ^ low)) 64) [
        | inl lt ↦ lt
        | inr ge ↦ absurd (let a = bit_at_above n 64 (low + trailing_zeros w64 (n / 2 ^ low)) fits ge in omega (arith, a, one))
      ];
      set = ap (λ (m : ℕ). m == 1) one;
      lowest = λ b le lt. ap (λ (m : ℕ). m == 1) (shifted_bit n low b le ∙ t.2 (b - low) (omega (arith, le, lt)));
    }

-- ==== Runs as bits of words, and masks that share no bit.

-- ---- a run's bits in one word
pub ones_are : (bits : ℕ) → bits ≤ 64 → 18446744073709551615 / 2 ^ (64 - bits) ≡ 2 ^ bits - 1
ones_are bits h = ones_shr 64 (64 - bits) (omega arith) ∙ ap (λ n. 2 ^ n - 1) (omega (arith, h))

-- A run of low ones is at most each longer one.
pub ones_le : (low high : ℕ) → low ≤ high → 2 ^ low - 1 ≤ 2 ^ high - 1
ones_le low high h = let p : 2 ^ low ≤ 2 ^ high = pow-le-pow_right (lit< tt) h in omega (arith, p)

min_is : (a b : ℕ) → ((min a b ≡ a) × (a ≤ b)) ⊎ ((min a b ≡ b) × (b < a))
min_is a b = elim (cases_lt b a) [ inl lt ↦ inr (grind (arith, nat_tests, lt), lt) | inr ge ↦ inl (grind (arith, nat_tests, ge), ge) ]

-- where a run's end is in a word that begins at the number `base`
cut : (at base b : ℕ) → b < 64 → (b < min (at - base) 64 → base + b < at) × (min (at - base) 64 ≤ b → at ≤ base + b)
cut at base b h = search (arith, min_is)

-- The part of a word that a place cuts off is at most that of a later place.
pub cut_le : (at to base : ℕ) → at ≤ to → min (at - base) 64 ≤ min (to - base) 64
cut_le at to base h = search (arith, min_is)

mask_between : (low high : ℕ) → low ≤ high → 2 ^ high - 1 - (2 ^ low - 1) ≡ 2 ^ high - 2 ^ low
mask_between low high h = let p = pow_pos low in omega (arith, p)

mask_bit : (first grains base b : ℕ) → b < 64
    → has_bit (2 ^ min (first + grains - base) 64 - 1 - (2 ^ min (first - base) 64 - 1)) b ≡ in_run first grains (base + b)
mask_bit first grains base b h =
    search (arith, cut_le, mask_between, cut, cases_lt, bit_at_mask_below, run_below, bit_at_mask_inside, to_run, bit_at_mask_above, run_above)

-- The difference of two runs of low ones has just the bits of a run that lie in the word.
pub mask_is : (first grains base low high b m : ℕ) → m ≡ high - low → high ≡ 2 ^ min (first + grains - base) 64 - 1 → low ≡ 2 ^ min (first - base) 64 - 1
    → b < 64 → has_bit m b ≡ in_run first grains (base + b)
mask_is first grains base low high b m is is_high is_low h = search (arith, mask_bit)

-- ---- masks that share no bit
-- the words so far share none
abbrev pub ApartBelow : Mask4 → Mask4 → ℕ → Type 0
ApartBelow a b end = (x : ℕ) → x < end → is_set b x ≡ true → is_set a x ≡ false

-- Masks that are apart in one word more are apart below its end.
pub apart_more : (a b : Mask4) (word : ℕ) → bit_and (slice_index a.0 word) (slice_index b.0 word) ≡ 0 → ApartBelow a b (64 * word)
    → ApartBelow a b (64 * (word + 1))
apart_more a b word shares before x lt set = elim (cases_lt x (64 * word)) [
  | inl below ↦ before x below set
  | inr ge ↦
      let at : x / 64 ≡ word = omega (arith, ge, lt) in
      let none : (has_bit (slice_index a.0 word) (x % 64) && has_bit (slice_index b.0 word) (x % 64)) ≡ false
      = sym (bit_of_and (slice_index a.0 word) (slice_index b.0 word) (x % 64)) ∙ ap (λ n. has_bit n (x % 64)) shares ∙ none_of_zero (x % 64) in
      by_word a word x at ∙ sym (and-true (has_bit (slice_index a.0 word) (x % 64))) ∙ ap (λ t. has_bit (slice_index a.0 word) (x % 64) && t) (sym (sym (by_word b word x at) ∙ set)) ∙ none
]

-- Masks with a common bit in a word aren't apart.
pub not_apart : (a b : Mask4) (word : ℕ) → slice_index a.0 word < 2 ^ 64 → bit_and (slice_index a.0 word) (slice_index b.0 word) ≢ 0 → AreApart a b → ⊥
not_apart a b word fits shares apart =
    let le = and_le_l (slice_index a.0 word) (slice_index b.0 word) in
    let t = bit_at-trailing_zeros w64 (bit_and (slice_index a.0 word) (slice_index b.0 word)) (omega (arith, shares)) (omega (arith, le, fits)) in
    let z = trailing_zeros w64 (bit_and (slice_index a.0 word) (slice_index b.0 word)) in
    let both = and_parts (has_bit (slice_index a.0 word) z) (has_bit (slice_index b.0 word) z)
    (sym (bit_of_and (slice_index a.0 word) (slice_index b.0 word) z) ∙ is_one (bit_and (slice_index a.0 word) (slice_index b.0 word)) z t.1) in
    let in_a = at_word a word z t.0 ∙ both.0 in
    let out_of_a = apart (64 * word + z) (at_word b word z t.0 ∙ both.1) in
    cc

-- Masks of four words that are apart below 256 are apart.
pub apart_whole : (a b : Mask4) → length b.0 ≡ 4 → ApartBelow a b 256 → AreApart a b
apart_whole a b long h x set = h x (set_within b x long set) set

-- ---- a mask has a run where its other bits and the run share none
pub has_run_where : (r : Bool) (mask others run : Mask4) (first grains : ℕ) → first + grains ≤ 256 → ((g : ℕ) → g < 256 → is_set others g ≡ not (is_set mask g))
    → ((g : ℕ) → is_set run g ≡ in_run first grains g)
    → (IsTrue r ↔ AreApart others run) → IsTrue r ↔ AreSet mask first grains
has_run_where r mask others run first grains within other is answer = search (arith, not-false, to_run, run_of)

-- ==== How many bits of a mask are set.

-- the bits of one word of a mask
count_word : (mask : Mask4) (word k from : ℕ) → k ≡ 64 → from ≡ 64 * word → WordsFit mask
    → count_below k (λ x. is_set mask (from + x)) ≡ count_ones (slice_index mask.0 word)
count_word mask word k from width at fits =
    count_same k _ _ (λ x h. ap (λ n. is_set mask (n + x)) at ∙ at_word mask word x (omega (arith, width, h)))
    ∙ sym (ones_counted k (slice_index mask.0 word) (subst (λ n. slice_index mask.0 word < 2 ^ n) (sym width) (fits word)))

abbrev pub ones_in : Mask4 → ℕ
ones_in mask = count_ones (slice_index mask.0 0) + count_ones (slice_index mask.0 1) + count_ones (slice_index mask.0 2) + count_ones (slice_index mask.0 3)

-- The ones of a mask are its set bits.
counted : (mask : Mask4) (n k : ℕ) → k ≡ 64 → n ≡ k + k + k + k → WordsFit mask → ones_in mask ≡ count_below n (is_set mask)
counted mask n k width parts fits =
    let c = count_word mask 2 k (k + k) width (omega (arith, width)) fits in
    let d = count_word mask 3 k (k + k + k) width (omega (arith, width)) fits in
    let first = count_same k (is_set mask) (λ x. is_set mask (0 + x)) (λ x h. let e : x ≡ 0 + x = omega arith in ap (is_set mask) e) in
    let two = count_add k k (is_set mask) in
    let three = count_add (k + k) k (is_set mask) in
    let four = count_add (k + k + k) k (is_set mask) in
    let all = ap (λ m. count_below m (is_set mask)) parts in
    omega (arith, count_word mask 0 k 0 width (omega arith) fits, count_word mask 1 k k width (omega (arith, width)) fits, c, d, first, two, three, four, all)

set_counted : (mask : Mask4) (n k : ℕ) → k ≡ 64 → n ≡ 256 → WordsFit mask → ones_in mask ≡ set_count mask
unfolding set_count
set_counted mask n k width all fits = counted mask n k width (omega (arith, width, all)) fits ∙ ap (λ m. count_below m (is_set mask)) all

-- the bits of a mask are those of its words
pub set_ones : (mask : Mask4) → WordsFit mask → ones_in mask ≡ set_count mask
set_ones mask = set_counted mask 256 64 refl refl

-- ==== The lowest bits of a mask, and the lowest places of a run of set bits.

-- ---- the lowest set bit
-- a word that is left as 0 has no set bit from there on
pub none_left : (mask : Mask4) (from word low : ℕ) → low ≡ from - 64 * word → slice_index mask.0 word / 2 ^ low ≡ 0 → AreClear mask from (64 * word)
    → AreClear mask from (64 * (word + 1))
none_left mask from word low is nothing before x a b = search (arith, cases_lt, by_word, none_from)

-- where a word isn't left as 0, its lowest bit there is the mask's
pub lowest_is : (mask : Mask4) (from word low g : ℕ) → g ≡ 64 * word + low + trailing_zeros w64 (slice_index mask.0 word / 2 ^ low) → low ≡ from - 64 * word
    → from / 64 ≤ word → word < 4 → slice_index mask.0 word < 2 ^ 64
    → slice_index mask.0 word / 2 ^ low ≢ 0 → AreClear mask from (64 * word) → IsLowestSet mask from g
lowest_is mask from word low g at is began small fits some before =
    search (arith, lowest_from, at_word, cases_lt, by_word)

-- ---- the union of the words
abbrev pub union_of : Mask4 → ℕ
union_of mask = bit_or (bit_or (bit_or (slice_index mask.0 0) (slice_index mask.0 1)) (slice_index mask.0 2)) (slice_index mask.0 3)

four_words : (k : ℕ) → k < 4 → (k ≡ 0) ⊎ (k ≡ 1) ⊎ (k ≡ 2) ⊎ (k ≡ 3)
four_words zero lt = inl refl
four_words (suc zero) lt = inr (inl refl)
four_words (suc (suc zero)) lt = inr (inr (inl refl))
four_words (suc (suc (suc zero))) lt = inr (inr (inr refl))
four_words (suc (suc (suc (suc k)))) lt = absurd (omega (arith, lt))

-- Each bit of a mask is one of the union.
in_union : (mask : Mask4) (g : ℕ) → g < 256 → is_set mask g ≡ true → has_bit (union_of mask) (g % 64) ≡ true
in_union mask g lt is =
    let below : g / 64 < 4 = omega (arith, lt) in
    search (arith, below, is, bit_of_or, four_words)

-- A mask with a word that isn't 0 has a member.
has_bit_in : (mask : Mask4) (k : ℕ) → k < 4 → slice_index mask.0 k < 2 ^ 64 → slice_index mask.0 k ≢ 0 → HasMember mask
has_bit_in mask k few fits some =
    let found = bit_at-trailing_zeros w64 (slice_index mask.0 k) (omega (arith, some)) fits in (
      64 * k + trailing_zeros w64 (slice_index mask.0 k),
      omega (arith, few, found.0),
      at_word mask k (trailing_zeros w64 (slice_index mask.0 k)) found.0 ∙ ap (λ (m : ℕ). m == 1) found.1,
    )

-- the union of words that are all 0 is 0
no_union : (a b c d : ℕ) → a ≡ 0 → b ≡ 0 → c ≡ 0 → d ≡ 0 → bit_or (bit_or (bit_or a b) c) d ≡ 0
no_union a b c d first second third fourth = rw (first, second, third, fourth) refl

-- A mask is empty exactly where the union of its words is 0.
pub empty_by_union : (mask : Mask4) → WordsFit mask → (t : Bool) → (union_of mask == 0) ≡ t → MatchBool t (IsEmpty mask) (HasMember mask)
empty_by_union mask fits true is_zero = λ g lt. elim (cases_Bool (is_set mask g)) [
  | inl is ↦ absurd (true≢false (sym (in_union mask g lt is) ∙ ap (λ (n : ℕ). has_bit n (g % 64)) (eqb-true _ _ is_zero) ∙ none_of_zero (g % 64)))
  | inr off ↦ off
]
empty_by_union mask fits false some =
    let has = λ (k : ℕ) (few : k < 4) (ne : slice_index mask.0 k ≢ 0). has_bit_in mask k few (fits k) ne in
    elim (cases_eq (slice_index mask.0 0) 0) [
      | inl a ↦ elim (cases_eq (slice_index mask.0 1) 0) [
        | inl b ↦ elim (cases_eq (slice_index mask.0 2) 0) [
          | inl c ↦ elim (cases_eq (slice_index mask.0 3) 0) [
            | inl d ↦ absurd (true≢false (sym (eq-eqb _ _ (no_union _ _ _ _ a b c d)) ∙ some))
            | inr fourth ↦ has 3 (omega arith) fourth
          ]
          | inr third ↦ has 2 (omega arith) third
        ]
        | inr second ↦ has 1 (omega arith) second
      ]
      | inr first ↦ has 0 (omega arith) first
    ]

-- ---- the lowest clear bit, by the other bits of the mask
abbrev pub AreOthers : Mask4 → Mask4 → Type 0
AreOthers mask others = (g : ℕ) → g < 256 → is_set others g ≡ not (is_set mask g)

set_where : (mask others : Mask4) (x : ℕ) → AreOthers mask others → x < 256 → is_set others x ≡ false → is_set mask x ≡ true
set_where mask others x other h none = not-false (is_set mask x) (sym (other x h) ∙ none)

clear_where : (mask others : Mask4) (x : ℕ) → AreOthers mask others → x < 256 → is_set others x ≡ true → is_set mask x ≡ false
clear_where mask others x other h one = not-true (is_set mask x) (sym (other x h) ∙ one)

-- The lowest clear bit of a mask is the lowest set one of its complement.
pub lowest_clear : (mask others : Mask4) → AreOthers mask others → (r : Option ℕ) → MatchOption r (AreClear others 0 256) (λ g. IsLowestSet others 0 g)
    → MatchOption r (AllSetBelow mask 256) (λ g. IsLowestClear mask g)
lowest_clear mask others other r bare = grind (arith, set_where, clear_where)

-- ---- places
multiple : (k g : ℕ) → g % k ≡ 0 → g ≡ g / k * k + 0
multiple k g e = omega (arith, e, div-add-mod' g k)

-- the next multiple is k away
next_multiple : (k a b : ℕ) → a % k ≡ 0 → b % k ≡ 0 → a < b → a + k ≤ b
next_multiple k a b ea eb lt = search (arith, cases_lt, same_from_place, multiple)

-- the least multiple from a number on
pub rounded : (set align up : ℕ) → 1 ≤ align → up ≡ set / align + min 1 (set % align)
    → (set ≤ up * align) × (up * align < set + align) × (up * align % align ≡ 0)
rounded set align up h is =
    let b = div_ceil_times set align h in
    let same : up * align ≡ (set / align + min 1 (set % align)) * align = ap (λ n. n * align) is in
    (omega (arith, b.0, same), omega (arith, b.1, same), ap (λ n. n % align) (omega arith) ∙ mod-mul-add up align 0 h)

-- no place below the number
abbrev pub NoPlaceBelow : Mask4 → ℕ → ℕ → ℕ → ℕ → Type 0
NoPlaceBelow mask n align end start = (h : ℕ) → h < start → IsPlace mask n align end h → ⊥

-- a place's own first bit is set
own : (mask : Mask4) (n align end h : ℕ) → 1 ≤ n → IsPlace mask n align end h → is_set mask h ≡ true
own mask n align end h some place = place.set h (omega arith) (omega (arith, some))

-- none between the lowest set bit and the next multiple
pub none_to_place : (mask : Mask4) (n align end start set place : ℕ) → 1 ≤ n → place % align ≡ 0 → place < set + align → NoPlaceBelow mask n align end start
    → IsLowestSet mask start set → NoPlaceBelow mask n align end place
none_to_place mask n align end start set place some whole near before low h lt other = search (arith, cases_lt, own, next_multiple)

-- none at all where the lowest possible one ends too late
pub none_within : (mask : Mask4) (n align end place : ℕ) → end < place + n → NoPlaceBelow mask n align end place → HasNoPlace mask n align end
none_within mask n align end place late before h other = search (arith, cases_lt)

-- none up to the clear bit that ends a run that is too short
pub none_past : (mask : Mask4) (n align end place stop : ℕ) → end ≤ 256 → place + n ≤ end → stop < place + n → NoPlaceBelow mask n align end place
    → IsRunEnd mask place stop → NoPlaceBelow mask n align end (stop + 1)
none_past mask n align end place stop small within short before run h lt other = search (arith, cases_lt)
