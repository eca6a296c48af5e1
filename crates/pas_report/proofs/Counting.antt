-- Counts and sums below a number: one more, and how great they may be.
use Rattle.std.proofs.Common.{◌≡◌, ℕ, zero, suc, ◌+◌, ◌/◌, ◌%◌, ◌<◌, ◌≤◌, Bool, if◌then◌else◌, [], ◌∷◌, slice_index, refl, ap, arith, add-one}
use Rattle.pas_report.specs.Reports.{grains_that}
use Rattle.pas_bits.{specs.{Rows.set_count, Bits.{has_bit, count_below}}, proofs.Rows.{set_most, count_suc, count_same}}
use Rattle.pas_machine.specs.Totals.{sum_below}

-- ---- one more
pub sum_more : (i : ℕ) (v : ℕ → ℕ) → sum_below (i + 1) v ≡ sum_below i v + v i
sum_more i v = ap (λ n. sum_below n v) (add-one i)

-- ---- equal values
pub sum_same : (n : ℕ) (v w : ℕ → ℕ) → ((i : ℕ) → i < n → v i ≡ w i) → sum_below n v ≡ sum_below n w
sum_same zero v w same = refl
sum_same (suc n) v w same = let rest = sum_same n v w (λ i h. same i (omega arith)) in λ t. rest t + same n (omega arith) t

-- ---- a sum of sums, where one of the values is 1 or 0
pub sum_and_count : (n : ℕ) (v : ℕ → ℕ) (p : ℕ → Bool) → sum_below n (λ i. v i + (if p i then 1 else 0)) ≡ sum_below n v + count_below n p
sum_and_count zero v p = refl
sum_and_count (suc n) v p = omega (arith, sum_and_count n v p, count_suc n p (p n) refl)

-- ---- counts of a page
pub grains_counted : (n : ℕ) (p : ℕ → Bool) → n ≡ 256 → count_below n p ≡ grains_that p
unfolding grains_that
grains_counted n p all = ap (λ m. count_below m p) all

-- As many grains pass a test as pass an equal one.
pub grains_same : (p q : ℕ → Bool) → ((b : ℕ) → b < 256 → p b ≡ q b) → grains_that p ≡ grains_that q
unfolding grains_that
grains_same p q same = count_same 256 p q same

-- ---- the four free words of a page as a row
pub few_in_four : (n a b c d : ℕ) → n ≡ set_count (a ∷ b ∷ c ∷ d ∷ []) → n ≤ 256
few_in_four n a b c d is = omega (arith, is, set_most (a ∷ b ∷ c ∷ d ∷ []))

four_words : (v : ℕ → ℕ) (a b c d : ℕ) → a ≡ v 0 → b ≡ v 1 → c ≡ v 2 → d ≡ v 3 → (word : ℕ) → word < 4 → slice_index (a ∷ b ∷ c ∷ d ∷ []) word ≡ v word
four_words v a b c d first second third fourth zero few = first
four_words v a b c d first second third fourth (suc zero) few = second
four_words v a b c d first second third fourth (suc (suc zero)) few = third
four_words v a b c d first second third fourth (suc (suc (suc zero))) few = fourth
four_words v a b c d first second third fourth (suc (suc (suc (suc n)))) few = absurd (omega arith)

-- The set bits of four free words are the free grains of a page.
pub four_counted : (v : ℕ → ℕ) (a b c d : ℕ) → a ≡ v 0 → b ≡ v 1 → c ≡ v 2 → d ≡ v 3
    → set_count (a ∷ b ∷ c ∷ d ∷ []) ≡ grains_that (λ g. has_bit (v (g / 64)) (g % 64))
unfolding set_count grains_that
four_counted v a b c d first second third fourth = count_same 256 _ _ (λ g h. ap (λ w. has_bit w (g % 64)) (four_words v a b c d first second third fourth (g / 64) (omega (arith, h))))
