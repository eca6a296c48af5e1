-- Counts of the numbers below a bound that pass a test, and of the bits of a number.
use Rattle.std.proofs.Common.{◌≡◌, ℕ, zero, suc, ◌+◌, ◌*◌, ◌/◌, ◌%◌, ◌^◌, ◌<◌, ◌==◌, Bool, if◌then◌else◌, ap, sym, ◌∙◌, refl, arith, add-one, add-zero, add-suc}
use Rattle.std.proofs.Common.{pow_pos, ◌≢◌, ◌-◌, ◌≤◌, ◌&&◌, not, true, false, List, length, slice_index, inl, inr, bit_and, [], ◌∷◌, map, bit_or, take, drop}
use Rattle.std.proofs.{Common.{subst, w64, count_ones}, Math.{Nat.{pow-suc, div-lt_iff_lt-mul, mod-lt}, Seq.drop-cons}, lemmas.Nat.Bits.bit_at_cat_low}
use Rattle.std.proofs.lemmas.{Nat.{Bits.bit_at-trailing_zeros, ones_cat, shr_split, and_le_l, le_or_l, le_or_r}, Bool.cases_lt, List.{get_or_past, get_or-map}}
use Rattle.std.{proofs.lemmas.{List.length-map, Simd.{get_or-chunk, get_or-zip2, length-chunk}}, specs.Int.{bit_at, RustNames.count_ones, trailing_zeros}}
use Rattle.std.specs.Simd.Lanes.{chunk, fold_l, zip2, sum_l}
use Rattle.pas_bits.specs.{Bits.{has_bit, count_below}, Rows.{is_set, IsClearBelow, HasMember, IsLowestSet, IsWithinBelow, HasMemberOutside, set_count}}
use Rattle.pas_bits.proofs.Words.{none_of_zero, bit_of_and, bit_of_not}

-- ---- one more
pub count_suc : (i : ℕ) (p : ℕ → Bool) (b : Bool) → p i ≡ b → count_below (suc i) p ≡ count_below i p + (if b then 1 else 0)
count_suc i p b e = grind arith

-- The numbers below one more that pass are those before it, and the number itself if it passes.
pub count_more : (i : ℕ) (p : ℕ → Bool) → count_below (i + 1) p ≡ count_below i p + (if p i then 1 else 0)
count_more i p = ap (λ n. count_below n p) (add-one i) ∙ count_suc i p (p i) refl

-- ---- equal tests, and counts of two parts
pub count_same : (n : ℕ) (p q : ℕ → Bool) → ((i : ℕ) → i < n → p i ≡ q i) → count_below n p ≡ count_below n q
count_same zero p q same = refl
count_same (suc n) p q same = let rest = count_same n p q (λ i h. same i (omega arith)) in λ t. if same n (omega arith) t then suc (rest t) else rest t

-- The numbers below a sum that pass are those below its first part and those behind it.
pub count_add : (i j : ℕ) (p : ℕ → Bool) → count_below (i + j) p ≡ count_below i p + count_below j (λ b. p (i + b))
count_add i zero p = ap (λ n. count_below n p) (add-zero i) ∙ omega arith
count_add i (suc j) p = ap (λ n. count_below n p) (add-suc i j) ∙ count_suc (i + j) p (p (i + j)) refl ∙ omega (arith, count_add i j p, count_suc j (λ b. p (i + b)) (p (i + j)) refl)

-- ---- the bits of a number: the highest, and those below it
no_ones : count_ones 0 ≡ 0
unfolding count_ones
no_ones = refl

top_ones : (bit : ℕ) → bit < 2 → (b : Bool) → (bit == 1) ≡ b → count_ones bit ≡ (if b then 1 else 0)
unfolding count_ones
top_ones zero few b is = ap (λ t. if t then 1 else 0) is
top_ones (suc zero) few b is = ap (λ t. if t then 1 else 0) is
top_ones (suc (suc n)) few b is = absurd (omega arith)

-- The ones of a number are its set bits.
pub ones_counted : (k n : ℕ) → n < 2 ^ k → count_ones n ≡ count_below k (has_bit n)
ones_counted zero n small = let none : n ≡ 0 = omega arith in ap (λ m. count_ones m) none ∙ no_ones
ones_counted (suc k) n small =
    let power = pow-suc 2 k in
    let some : 0 < 2 ^ k = pow_pos k in
    let high : n / 2 ^ k < 2 = (div-lt_iff_lt-mul {k = 2 ^ k} {x = n} {y = 2} some).1 (omega arith) in
    let split : n / 2 ^ k * 2 ^ k + n % 2 ^ k ≡ n = shr_split n k in
    let low : n % 2 ^ k < 2 ^ k = mod-lt n some in
    let below : count_below k (has_bit (n % 2 ^ k)) ≡ count_below k (has_bit n) =
    count_same k _ _ (λ i h. ap (λ t. t == 1) (sym (bit_at_cat_low (n / 2 ^ k) k (n % 2 ^ k) i h) ∙ ap (λ m. bit_at m i) split)) in
    let top : count_ones (n / 2 ^ k) ≡ (if has_bit n k then 1 else 0) = top_ones (n / 2 ^ k) high (has_bit n k) (ap (λ t. t == 1) (sym (omega arith))) in
    let ones : count_ones n ≡ count_ones (n / 2 ^ k) + count_ones (n % 2 ^ k) = ap (λ m. count_ones m) (sym split) ∙ ones_cat k (n / 2 ^ k) (n % 2 ^ k) low in
    ones ∙ omega (arith, top, below, ones_counted k (n % 2 ^ k) low, count_suc k (has_bit n) (has_bit n k) refl)

-- Rows of words: their bits, rows of which so many words were read, groups of words in lanes, and how many bits are set.
-- ==== Words of a row, and rows of which so many words were read.

-- each word of the row fits
abbrev pub WordsFit : List ℕ → Type 0
WordsFit words = (word : ℕ) → slice_index words word < 2 ^ 64

-- the bits of the word of this number
by_word : (words : List ℕ) (word x : ℕ) → x / 64 ≡ word → is_set words x ≡ has_bit (slice_index words word) (x % 64)
by_word words word x at = ap (λ w. has_bit (slice_index words w) (x % 64)) at

at_word : (words : List ℕ) (word b : ℕ) → b < 64 → is_set words (64 * word + b) ≡ has_bit (slice_index words word) b
at_word words word b h =
    by_word words word (64 * word + b) (omega (arith, h)) ∙ ap (has_bit (slice_index words word)) (omega (arith, h))

-- there are no bits behind the last word
pub none_past : (words : List ℕ) (x : ℕ) → 64 * length words ≤ x → is_set words x ≡ false
none_past words x h = ap (λ n. has_bit n (x % 64)) (get_or_past words (x / 64) 0 (omega (arith, h))) ∙ none_of_zero (x % 64)

clear_word : (words : List ℕ) (x : ℕ) → slice_index words (x / 64) ≡ 0 → is_set words x ≡ false
clear_word words x bare = ap (λ n. has_bit n (x % 64)) bare ∙ none_of_zero (x % 64)

-- ---- the lowest set bit of a word
record IsLowestBit (n bit : ℕ) : Type 0 where
  within : bit < 64
  set : has_bit n bit ≡ true
  lowest : (b : ℕ) → b < bit → has_bit n b ≡ false

lowest_bit : (n : ℕ) → n ≢ 0 → n < 2 ^ 64 → IsLowestBit n (trailing_zeros w64 n)
lowest_bit n some fits =
    let found = bit_at-trailing_zeros w64 n (omega (arith, some)) fits in
    record {
      within = found.0;
      set = ap (λ m. m == 1) found.1;
      lowest = λ b lt. ap (λ m. m == 1) (found.2 b lt);
    }

-- ---- rows without a set bit so far
pub clear_more : (words : List ℕ) (start end : ℕ) → ((k : ℕ) → start ≤ k → k < end → slice_index words k ≡ 0) → IsClearBelow words (64 * start)
    → IsClearBelow words (64 * end)
clear_more words start end bare clear x h = search (arith, cases_lt, clear_word)

-- The first word that isn't 0 has the lowest set number of its row.
pub lowest_set : (words : List ℕ) (word : ℕ) → WordsFit words → slice_index words word ≢ 0 → IsClearBelow words (64 * word)
    → IsLowestSet words (64 * word + trailing_zeros w64 (slice_index words word))
lowest_set words word fits some clear =
    search (arith, lowest_bit, at_word, cases_lt, by_word)

-- A row with a word that isn't 0 has a member.
pub has_member : (words : List ℕ) (word : ℕ) → WordsFit words → slice_index words word ≢ 0 → HasMember words
has_member words word fits some =
    let low = lowest_bit (slice_index words word) some (fits word) in
    (64 * word + trailing_zeros w64 (slice_index words word), at_word words word (trailing_zeros w64 (slice_index words word)) low.within ∙ low.set)

-- ---- the numbers of one row that are numbers of another
implied : (s t : Bool) → (s && not t) ≡ false → s ≡ true → t ≡ true
implied s t none is = grind arith

-- Where the first holds without the second, each is known.
only_first : (s t : Bool) → (s && not t) ≡ true → (s ≡ true) × (t ≡ false)
only_first s t some = grind arith

outside_bit : (m n b : ℕ) → n < 2 ^ 64 → b < 64 → has_bit (bit_and m (2 ^ 64 - 1 - n)) b ≡ (has_bit m b && not (has_bit n b))
outside_bit m n b fits h = bit_of_and m (2 ^ 64 - 1 - n) b ∙ ap (λ t. has_bit m b && t) (bit_of_not n b fits h)

-- the bits of a word that are set in the first row and clear in the second
abbrev pub outside : List ℕ → List ℕ → ℕ → ℕ
outside a b word = bit_and (slice_index a word) (2 ^ 64 - 1 - slice_index b word)

-- A row within another up to one word is so up to a later one where no word between has numbers outside.
pub within_more : (a b : List ℕ) (start end : ℕ) → WordsFit b → ((k : ℕ) → start ≤ k → k < end → outside a b k ≡ 0) → IsWithinBelow a b (64 * start)
    → IsWithinBelow a b (64 * end)
within_more a b start end fits none inside x h is = elim (cases_lt x (64 * start)) [
  | inl lt ↦ inside x lt is
  | inr ge ↦ implied (is_set a x) (is_set b x)
      (sym (outside_bit (slice_index a (x / 64)) (slice_index b (x / 64)) (x % 64) (fits (x / 64)) (omega arith))
      ∙ ap (λ n. has_bit n (x % 64)) (none (x / 64) (omega (arith, ge)) (omega (arith, h))) ∙ none_of_zero (x % 64)) is
]

-- A row with a word that has bits outside another has a member outside it.
pub has_outside : (a b : List ℕ) (word : ℕ) → WordsFit a → WordsFit b → outside a b word ≢ 0 → HasMemberOutside a b
has_outside a b word fits_a fits_b some =
    let bit = trailing_zeros w64 (outside a b word) in
    let low = lowest_bit (outside a b word) some (omega (arith, and_le_l (slice_index a word) (2 ^ 64 - 1 - slice_index b word), fits_a word)) in
    let parts = only_first (has_bit (slice_index a word) bit) (has_bit (slice_index b word) bit) (sym (outside_bit (slice_index a word) (slice_index b word) bit (fits_b word) low.within) ∙ low.set) in
    (64 * word + bit, at_word a word bit low.within ∙ parts.0, at_word b word bit low.within ∙ parts.1)

-- ==== Groups of words in lanes.

-- the union of the lanes
abbrev pub union : ℕ → List ℕ → ℕ
union a lanes = fold_l bit_or a lanes

first_below : (a : ℕ) (lanes : List ℕ) → a ≤ union a lanes
first_below a [] = omega arith
first_below a (x ∷ lanes) = omega (arith, le_or_l a x, first_below (bit_or a x) lanes)

lane_below : (a : ℕ) (lanes : List ℕ) (k : ℕ) → slice_index lanes k ≤ union a lanes
lane_below a [] k = omega arith
lane_below a (x ∷ lanes) zero = omega (arith, le_or_r a x, first_below (bit_or a x) lanes)
lane_below a (x ∷ lanes) (suc k) = lane_below (bit_or a x) lanes k

lane_zero : (lanes : List ℕ) (k : ℕ) → union 0 lanes ≡ 0 → slice_index lanes k ≡ 0
lane_zero lanes k none = let below = lane_below 0 lanes k in omega (arith, below, none)

-- where a group's lanes have no bit, none of its words has one
pub group_zero : (words : List ℕ) (start n : ℕ) → union 0 (chunk start n words) ≡ 0 → (k : ℕ) → start ≤ k → k < start + n → slice_index words k ≡ 0
group_zero words start n none k le lt =
    let at : start + (k - start) ≡ k = omega (arith, le) in
    ap (slice_index words) (sym at) ∙ sym (get_or-chunk start n words (k - start) 0 (omega (arith, le, lt))) ∙ lane_zero (chunk start n words) (k - start) none

-- the same of the bits that are set in the first row's group and clear in the second's
abbrev pub outside_lanes : List ℕ → List ℕ → List ℕ
outside_lanes xs ys = zip2 bit_and xs (map (λ y. 2 ^ 64 - 1 - y) ys)

-- A group of words whose lanes have nothing outside has no word with bits outside.
pub group_within : (a b : List ℕ) (start n : ℕ) → start + n ≤ length a → start + n ≤ length b → union 0 (outside_lanes (chunk start n a) (chunk start n b)) ≡ 0
    → (k : ℕ) → start ≤ k → k < start + n → outside a b k ≡ 0
group_within a b start n room_a room_b none k le lt =
    let at : start + (k - start) ≡ k = omega (arith, le) in
    let lane : k - start < n = omega (arith, le, lt) in
    let xs = chunk start n a in
    let ys = chunk start n b in
    let long_b = length-chunk start n b room_b in
    let not_ys = map (λ y. 2 ^ 64 - 1 - y) ys in
    let long_not = length-map ys (λ (y : ℕ). 2 ^ 64 - 1 - y) in
    let here = get_or-zip2 bit_and xs not_ys (k - start) 0 0 0 (omega (arith, lane, length-chunk start n a room_a)) (omega (arith, lane, long_b, long_not)) in
    let first = get_or-chunk start n a (k - start) 0 lane ∙ ap (slice_index a) at in
    let second = get_or-chunk start n b (k - start) 0 lane ∙ ap (slice_index b) at in
    let whole : slice_index (outside_lanes xs ys) (k - start) ≡ outside a b k =
    here ∙ ap (λ m. bit_and (slice_index xs (k - start)) m) (get_or-map (λ (y : ℕ). 2 ^ 64 - 1 - y) ys (k - start) 0 0 (omega (arith, lane, long_b))) ∙ ap (λ m. bit_and m (2 ^ 64 - 1 - slice_index ys (k - start))) first ∙ ap (λ m. bit_and (slice_index a k) (2 ^ 64 - 1 - m)) second in
    sym whole ∙ lane_zero (outside_lanes xs ys) (k - start) none

-- ==== How many bits of so many words are set.

-- how many bits of the first words are set
unfoldable pub count_before : List ℕ → ℕ → ℕ
count_before words word = count_below (64 * word) (is_set words)

-- Before the first word of a row no number is set.
pub none_before : (words : List ℕ) → count_before words 0 ≡ 0
unfolding count_before
none_before words = refl

-- The numbers before a row's end are all that are set in it.
pub whole_before : (words : List ℕ) → count_before words (length words) ≡ set_count words
unfolding count_before set_count
whole_before words = refl

count_most : (n : ℕ) (p : ℕ → Bool) → count_below n p ≤ n
count_most zero p = omega arith
count_most (suc n) p = grind (arith, count_suc n p (p n) refl, count_most n p)

-- At most 64 numbers are set in each word before one.
pub before_most : (words : List ℕ) (word : ℕ) → count_before words word ≤ 64 * word
unfolding count_before
before_most words word = count_most (64 * word) (is_set words)

-- At most 64 numbers are set in each word of a row.
pub set_most : (words : List ℕ) → set_count words ≤ 64 * length words
unfolding set_count
set_most words = count_most (64 * length words) (is_set words)

-- ---- one more word
next_word : (words : List ℕ) (word k : ℕ) → k ≡ 64 → WordsFit words
    → count_below (k * (word + 1)) (is_set words) ≡ count_below (k * word) (is_set words) + count_ones (slice_index words word)
next_word words word k width fits =
    let split : k * (word + 1) ≡ k * word + k = omega arith in
    let here : count_below k (λ b. is_set words (k * word + b)) ≡ count_below k (has_bit (slice_index words word)) =
    count_same k _ _ (λ b h. ap (λ n. is_set words (n * word + b)) width ∙ at_word words word b (omega (arith, width, h))) in
    let ones = ones_counted k (slice_index words word) (subst (λ n. slice_index words word < 2 ^ n) (sym width) (fits word)) in
    ap (λ n. count_below n (is_set words)) split ∙ omega (arith, count_add (k * word) k (is_set words), here, ones)

-- The numbers before one word more are those before it and its ones.
pub word_more : (words : List ℕ) (word : ℕ) → WordsFit words → count_before words (word + 1) ≡ count_before words word + count_ones (slice_index words word)
unfolding count_before
word_more words word = next_word words word 64 refl

-- ---- one more group
-- the counts of a group's lanes, each as a lane again
abbrev pub lane_counts : List ℕ → List ℕ
lane_counts lanes = map (λ (n : ℕ). n) (map count_ones lanes)

group_next : (words : List ℕ) (start n : ℕ) → start < length words → chunk start (suc n) words ≡ slice_index words start ∷ chunk (start + 1) n words
group_next words start n h =
    ap (take (suc n)) (drop-cons words start 0 h) ∙ ap (λ (i : ℕ). slice_index words start ∷ take n (drop i words)) (sym (add-one start))

-- The numbers before a group more are those before it and the sum of its lanes.
pub group_more : (words : List ℕ) (start n : ℕ) → start + n ≤ length words → WordsFit words
    → count_before words (start + n) ≡ count_before words start + sum_l (lane_counts (chunk start n words))
group_more words start zero room fits = ap (count_before words) (add-zero start) ∙ omega arith
group_more words start (suc n) room fits =
    let word = word_more words start fits in
    let sums : sum_l (lane_counts (chunk start (suc n) words)) ≡ count_ones (slice_index words start) + sum_l (lane_counts (chunk (start + 1) n words)) = ap (λ xs. sum_l (lane_counts xs)) (group_next words start n (omega (arith, room))) in
    let at : start + suc n ≡ start + 1 + n = omega arith in
    ap (count_before words) at ∙ omega (arith, group_more words (start + 1) n (omega (arith, room)) fits, word, sums)

-- A group has as many counts as words.
pub length_counts : (words : List ℕ) (start n : ℕ) → start + n ≤ length words → length (lane_counts (chunk start n words)) ≡ n
length_counts words start n room =
    length-map (map count_ones (chunk start n words)) (λ (x : ℕ). x) ∙ length-map (chunk start n words) count_ones ∙ length-chunk start n words room
