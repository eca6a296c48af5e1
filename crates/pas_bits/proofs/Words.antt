-- Bits of words, and the words of a mask.
use Rattle.std.proofs.Common.{◌≡◌, ◌≢◌, ℕ, ◌+◌, ◌-◌, ◌*◌, ◌/◌, ◌%◌, ◌^◌, ◌<◌, ◌≤◌, ◌==◌, ◌&&◌, ◌||◌, not, Bool, true, false, List, [], ◌∷◌, length, slice_index}
use Rattle.std.proofs.Common.{slice_set, inl, inr, ap, sym, ◌∙◌, arith, bit_and, bit_or, get_or-set_same, get_or-set_other, w64, eq-eqb, ne_eqb}
use Rattle.std.proofs.lemmas.{Bool.{cases_lt, cases_eq, Decides.nat_tests}, List.get_or_past, Nat.Bits.{bit_at-zero, bit_at_and, bit_at_or, bit_at_not}}
use Rattle.std.{proofs.lemmas.Nat.Bits.{bit_at_ones, bit_at_set_same, bit_at_set_other, bit_at_clear_same, bit_at_clear_other}, specs.Int.{bit_at, bit_not}}
use Rattle.pas_bits.specs.{Bits.has_bit, Masks.is_set, declared.mask.Mask4.Mask4}

-- ---- bits as numbers and as tests

-- A bit of a number that is 1 is set.
pub is_one : (n b : ℕ) → bit_at n b ≡ 1 → has_bit n b ≡ true
is_one n b h = ap (λ x. x == 1) h

-- A bit of a number that is 0 isn't set.
pub is_zero : (n b : ℕ) → bit_at n b ≡ 0 → has_bit n b ≡ false
is_zero n b h = ap (λ x. x == 1) h

-- The number 0 has no set bit.
pub none_of_zero : (b : ℕ) → has_bit 0 b ≡ false
none_of_zero b = is_zero 0 b (bit_at-zero b)

-- the other bits of a word
pub bit_of_not : (n b : ℕ) → n < 2 ^ 64 → b < 64 → has_bit (2 ^ 64 - 1 - n) b ≡ not (has_bit n b)
bit_of_not n b fits h = ap (λ x. x == 1) (bit_at_not w64 n b fits h) ∙ grind (arith, nat_tests)

-- the bits that two words share
pub bit_of_and : (m n b : ℕ) → has_bit (bit_and m n) b ≡ (has_bit m b && has_bit n b)
bit_of_and m n b = ap (λ x. x == 1) (bit_at_and m n b) ∙ grind (arith, nat_tests)

-- the bits that one of two words has
pub bit_of_or : (m n b : ℕ) → has_bit (bit_or m n) b ≡ (has_bit m b || has_bit n b)
bit_of_or m n b = ap (λ x. x == 1) (bit_at_or m n b) ∙ grind (arith, nat_tests)

-- a bit after the bits of a mask were cleared
pub bit_cleared : (n m b : ℕ) → m < 2 ^ 64 → b < 64 → has_bit (bit_and n (bit_not w64 m)) b ≡ (has_bit n b && not (has_bit m b))
bit_cleared n m b fits h = bit_of_and n (bit_not w64 m) b ∙ ap (λ t. has_bit n b && t) (bit_of_not m b fits h)

-- every bit of the greatest word is set
pub full_bit : (b : ℕ) → b < 64 → has_bit (2 ^ 64 - 1) b ≡ true
full_bit b h = eq-eqb (bit_at (2 ^ 64 - 1) b) 1 (bit_at_ones 64 b h)

-- ---- the words of a mask
pub by_word : (mask : Mask4) (word x : ℕ) → x / 64 ≡ word → is_set mask x ≡ has_bit (slice_index mask.0 word) (x % 64)
by_word mask word x at = ap (λ w. has_bit (slice_index mask.0 w) (x % 64)) at

-- bit b of a word of the mask
pub at_word : (mask : Mask4) (word b : ℕ) → b < 64 → is_set mask (64 * word + b) ≡ has_bit (slice_index mask.0 word) b
at_word mask word b h =
    by_word mask word (64 * word + b) (omega (arith, h)) ∙ ap (has_bit (slice_index mask.0 word)) (omega (arith, h))

-- a mask has no bit from 256 on
pub none_past : (mask : Mask4) (x : ℕ) → length mask.0 ≡ 4 → 256 ≤ x → is_set mask x ≡ false
none_past mask x long h = ap (λ n. has_bit n (x % 64)) (get_or_past mask.0 (x / 64) 0 (omega (arith, long, h))) ∙ none_of_zero (x % 64)

-- A set bit of a mask of four words is below 256.
pub set_within : (mask : Mask4) (x : ℕ) → length mask.0 ≡ 4 → is_set mask x ≡ true → x < 256
set_within mask x long h = elim (cases_lt x 256) [ inl lt ↦ lt | inr ge ↦ let no_bit = none_past mask x long ge in absurd (cc) ]

-- ---- the numbers of four words that are written out, word by word
in_word : (words : List ℕ) (P : ℕ → Bool) (k g : ℕ) → ((x : ℕ) → x < 64 → has_bit (slice_index words k) x ≡ P (64 * k + x)) → g / 64 ≡ k
    → has_bit (slice_index words (g / 64)) (g % 64) ≡ P g
in_word words P k g bits at = ap (λ w. has_bit (slice_index words w) (g % 64)) at ∙ bits (g % 64) (omega arith) ∙ ap P (omega (arith, at))

-- Four words whose bits are each those of a test are a mask of that test.
pub four_words : (a b c d : ℕ) (P : ℕ → Bool) → ((x : ℕ) → x < 64 → has_bit a x ≡ P (0 + x)) → ((x : ℕ) → x < 64 → has_bit b x ≡ P (64 + x))
    → ((x : ℕ) → x < 64 → has_bit c x ≡ P (128 + x))
    → ((x : ℕ) → x < 64 → has_bit d x ≡ P (192 + x)) → (g : ℕ) → g < 256 → has_bit (slice_index (a ∷ b ∷ c ∷ d ∷ []) (g / 64)) (g % 64) ≡ P g
four_words a b c d P ha hb hc hd g h = let here = in_word (a ∷ b ∷ c ∷ d ∷ []) P in elim (cases_lt g 64) [
  | inl lt ↦ here 0 g ha (omega (arith, lt))
  | inr ge ↦ elim (cases_lt g 128) [
    | inl lt ↦ here 1 g hb (omega (arith, lt, ge))
    | inr past ↦ elim (cases_lt g 192) [ inl lt ↦ here 2 g hc (omega (arith, lt, past)) | inr last ↦ here 3 g hd (omega (arith, h, last)) ]
  ]
]

-- ---- one bit set or cleared
-- another number has another word or another place in its word
other_place : (g h : ℕ) → g / 64 ≡ h / 64 → g % 64 ≢ h % 64 → (g == h) ≡ false
other_place g h word place = ne_eqb g h (λ e. place (ap (λ n. n % 64) e))

other_word : (g h : ℕ) → g / 64 ≢ h / 64 → (g == h) ≡ false
other_word g h word = ne_eqb g h (λ e. word (ap (λ n. n / 64) e))

same_place : (g h : ℕ) → g / 64 ≡ h / 64 → g % 64 ≡ h % 64 → (g == h) ≡ true
same_place g h word place = eq-eqb g h (omega (arith, word, place))

-- a mask whose word of `grain` is another has the bits of that word there, and its own elsewhere
replaced_same : (words : List ℕ) (word n w b : ℕ) → word < length words → w ≡ word → has_bit (slice_index (slice_set words word n) w) b ≡ has_bit n b
replaced_same words word n w b h e = ap (λ i. has_bit (slice_index (slice_set words word n) i) b) e ∙ ap (λ m. has_bit m b) (get_or-set_same words word n 0 h)

replaced_other : (words : List ℕ) (word n w b : ℕ) → w ≢ word → has_bit (slice_index (slice_set words word n) w) b ≡ has_bit (slice_index words w) b
replaced_other words word n w b ne = ap (λ m. has_bit m b) (get_or-set_other words word w n 0 ne)

abbrev one_set : ℕ → ℕ → ℕ
one_set n k = bit_or n (1 * 2 ^ k % 2 ^ 64)

abbrev one_cleared : ℕ → ℕ → ℕ
one_cleared n k = bit_and n (2 ^ 64 - 1 - 1 * 2 ^ k % 2 ^ 64)

-- After one grain was set, a mask's bits are that one and those before.
pub after_set : (words : List ℕ) (grain : ℕ) → length words ≡ 4 → grain < 256 → (g : ℕ)
    → has_bit (slice_index (slice_set words (grain / 64) (one_set (slice_index words (grain / 64)) (grain % 64))) (g / 64)) (g % 64)
    ≡ ((g == grain) || has_bit (slice_index words (g / 64)) (g % 64))
after_set words grain long h g = elim (cases_eq (g / 64) (grain / 64)) [
  | inl word ↦ replaced_same words (grain / 64) (one_set (slice_index words (grain / 64)) (grain % 64)) (g / 64) (g % 64) (omega (arith, long, h)) word
      ∙ elim (cases_eq (g % 64) (grain % 64)) [
        | inl place ↦ ap (has_bit (one_set (slice_index words (grain / 64)) (grain % 64))) place ∙ is_one (one_set (slice_index words (grain / 64))
            (grain % 64)) (grain % 64) (bit_at_set_same w64 (slice_index words (grain / 64)) (grain % 64) (omega arith))
            ∙ ap (λ t. t || has_bit (slice_index words (g / 64)) (g % 64)) (sym (same_place g grain word place))
        | inr place ↦ ap (λ x. x == 1) (bit_at_set_other w64 (slice_index words (grain / 64)) (grain % 64) (omega arith) (g % 64) place) ∙ ap (λ w. has_bit
            (slice_index words w) (g % 64)) (sym word) ∙ ap (λ t. t || has_bit (slice_index words (g / 64)) (g % 64)) (sym (other_place g grain word place))
      ]
  | inr word ↦ cc (replaced_other words (grain / 64) (one_set (slice_index words (grain / 64)) (grain % 64)) (g / 64) (g % 64) word, other_word g grain word)
]

-- After one grain was cleared, a mask's bits are those before but that one.
pub after_clear : (words : List ℕ) (grain : ℕ) → length words ≡ 4 → grain < 256 → (g : ℕ)
    → has_bit (slice_index (slice_set words (grain / 64) (one_cleared (slice_index words (grain / 64)) (grain % 64))) (g / 64)) (g % 64)
    ≡ (not (g == grain) && has_bit (slice_index words (g / 64)) (g % 64))
after_clear words grain long h g = elim (cases_eq (g / 64) (grain / 64)) [
  | inl word ↦ replaced_same words (grain / 64) (one_cleared (slice_index words (grain / 64)) (grain % 64)) (g / 64) (g % 64) (omega (arith, long, h)) word
      ∙ elim (cases_eq (g % 64) (grain % 64)) [
        | inl place ↦ ap (has_bit (one_cleared (slice_index words (grain / 64)) (grain % 64))) place ∙ is_zero (one_cleared (slice_index words (grain / 64))
            (grain % 64)) (grain % 64) (bit_at_clear_same w64 (slice_index words (grain / 64)) (grain % 64) (omega arith))
            ∙ ap (λ t. not t && has_bit (slice_index words (g / 64)) (g % 64)) (sym (same_place g grain word place))
        | inr place ↦ ap (λ x. x == 1) (bit_at_clear_other w64 (slice_index words (grain / 64)) (grain % 64) (omega arith) (g % 64) (omega arith) place)
            ∙ ap (λ w. has_bit (slice_index words w) (g % 64)) (sym word) ∙ ap (λ t. not t && has_bit (slice_index words (g / 64)) (g % 64)) (sym (other_place g grain word place))
      ]
  | inr word ↦ replaced_other words (grain / 64) (one_cleared (slice_index words (grain / 64)) (grain % 64)) (g / 64) (g % 64) word
      ∙ ap (λ t. not t && has_bit (slice_index words (g / 64)) (g % 64)) (sym (other_word g grain word))
]

-- ---- all other bits
-- each word of the mask fits
abbrev pub WordsFit : Mask4 → Type 0
WordsFit mask = (word : ℕ) → slice_index mask.0 word < 2 ^ 64

other_bits : (mask : Mask4) (word b : ℕ) → WordsFit mask → b < 64 → has_bit (2 ^ 64 - 1 - slice_index mask.0 word) b ≡ not (is_set mask (64 * word + b))
other_bits mask word b fits h = bit_of_not (slice_index mask.0 word) b (fits word) h ∙ ap not (sym (at_word mask word b h))

-- the complements of a mask's words
abbrev pub complements : Mask4 → List ℕ
complements mask = (2 ^ 64 - 1 - slice_index mask.0 0) ∷ (2 ^ 64 - 1 - slice_index mask.0 1) ∷ (2 ^ 64 - 1 - slice_index mask.0 2) ∷ (2 ^ 64 - 1 - slice_index mask.0 3) ∷ []

-- A mask of the complements of words has just the bits that aren't set.
pub after_complement : (mask : Mask4) → WordsFit mask → (g : ℕ) → g < 256 → has_bit (slice_index (complements mask) (g / 64)) (g % 64) ≡ not (is_set mask g)
after_complement mask fits g h =
    search (arith, four_words, other_bits)
