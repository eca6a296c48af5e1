-- Tests of all numbers below a bound, and a word without a bit.
use Rattle.std.proofs.{Common.{◌≡◌, ℕ, ◌^◌, ◌<◌, Bool, true, false, refl, ◌∙◌, arith, sym, eqb-true}, lemmas.Bool.{eqb-false, Decides.Decides-below_and}}
use Rattle.std.{proofs.lemmas.Nat.Bits.{same_from_bits_below, bit_at-zero, bit_at-lt, bit_at_ones}, specs.{Int.bit_at, Bool.Decides}}
use Rattle.pas_bits.specs.Bits.{has_bit}
use Rattle.pas_steps.specs.Views.{all_below, all_ones}

all_decides : (n : ℕ) (p : ℕ → Bool) → Decides (all_below n p) ((i : ℕ) → i < n → p i ≡ true)
unfolding all_below
all_decides n p = Decides-below_and p (λ i. p i ≡ true) (λ n. all_below n p) (λ i. (λ h. h, λ h. h)) refl (λ n. refl) n

-- A test that all numbers below a bound pass is passed by each.
pub all_below-at : (n k : ℕ) (p : ℕ → Bool) → all_below n p ≡ true → k < n → p k ≡ true
all_below-at n k p h lt = (all_decides n p).0 h k lt

-- A test that each number below a bound passes is passed by all.
pub all_below-from : (n : ℕ) (p : ℕ → Bool) → ((i : ℕ) → i < n → p i ≡ true) → all_below n p ≡ true
all_below-from n p h = (all_decides n p).1 h

-- A word without a set bit is 0.
pub none_set : (n : ℕ) → n < 2 ^ 64 → ((b : ℕ) → b < 64 → has_bit n b ≡ false) → n ≡ 0
none_set n lt h = same_from_bits_below 64 n 0 lt (omega arith) (λ b small. let bit = bit_at-lt n b in let ne = eqb-false (bit_at n b) 1 (h b small) in omega (arith, bit, ne, bit_at-zero b))

-- A word with all bits set is all ones.
pub all_set : (n : ℕ) → n < 2 ^ 64 → ((b : ℕ) → b < 64 → has_bit n b ≡ true) → n ≡ all_ones
all_set n lt h = same_from_bits_below 64 n all_ones lt (omega arith) (λ b small. eqb-true (bit_at n b) 1 (h b small) ∙ sym (bit_at_ones 64 b small))
