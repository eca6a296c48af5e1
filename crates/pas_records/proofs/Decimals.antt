-- Numbers of one, two and three decimal digits.
use Rattle.std.proofs.Common.{◌≡◌, ℕ, zero, suc, ◌+◌, ◌-◌, ◌/◌, ◌%◌, ◌<◌, ◌≤◌, nat_lt, Bool, true, ◌&&◌, T, eqb, eqb→eq, eq-zero-or-pos, inl, inr, List, []}
use Rattle.std.proofs.{Common.{◌∷◌, ◌++◌, length, take, drop, get_or, codes, ap, ◌∙◌, arith, refl, lt-ltb}, lemmas.{List.drop_more, Fmt.decimal_digit}}
use Rattle.std.specs.{List.slice_range, Fmt.decimal}
use lib.Ieee.Fits.{and_l, and_r}
use Rattle.itoa.proofs.Decimal.{decimal_two, decimal_pair}
use Rattle.pas_records.specs.Lines.{hex_digit}

same_digit : (n : ℕ) → n < 10 → 48 + n ≡ hex_digit n
same_digit n small = let t : nat_lt n 10 ≡ true = lt-ltb n 10 small in rw t refl

same_pair : (n : ℕ) → n < 100 → (48 + n / 10) ∷ (48 + n % 10) ∷ [] ≡ hex_digit (n / 10) ∷ hex_digit (n % 10) ∷ []
same_pair n small i = same_digit (n / 10) (omega arith) i ∷ same_digit (n % 10) (omega arith) i ∷ []

-- A number below 10 has one digit.
pub one_digit : (n : ℕ) → n < 10 → decimal n ≡ hex_digit n ∷ []
one_digit n small = decimal_digit n small ∙ ap (λ d. d ∷ []) (same_digit n small)

-- A number from 10 to 99 has two digits.
pub two_digits : (n : ℕ) → 10 ≤ n → n < 100 → decimal n ≡ hex_digit (n / 10) ∷ hex_digit (n % 10) ∷ []
two_digits n large small = decimal_two n large small ∙ same_pair n small

-- A number from 100 to 999 has three digits.
pub three_digits : (n : ℕ) → 100 ≤ n → n < 1000 → decimal n ≡ hex_digit (n / 100) ∷ hex_digit (n % 100 / 10) ∷ hex_digit (n % 100 % 10) ∷ []
three_digits n large small = decimal_pair n large (omega arith) ∙ (λ i. one_digit (n / 100) (omega arith) i ++ same_pair (n % 100) (omega arith) i)

-- ---- the digits in one text
abbrev digits : List ℕ
digits = codes "0123456789abcdef"

abbrev are_digits : ℕ → Bool
are_digits zero = true
are_digits (suc n) = eqb (get_or digits n 0) (hex_digit n) && are_digits n

digit_among : (k n : ℕ) → T (are_digits k) → n < k → get_or digits n 0 ≡ hex_digit n
digit_among zero n t h = absurd (omega arith)
digit_among (suc k) n t h =
    elim (eq-zero-or-pos (k - n)) [
      | inl z ↦ let e : n ≡ k = omega arith in rw e (eqb→eq _ _ (and_l _ (are_digits k) t))
      | inr g ↦ digit_among k n (and_r _ (are_digits k) t) (omega arith)
    ]

-- The digit at a place of the table is that number's.
pub digit_at : (n : ℕ) → n < 16 → slice_range digits n (n + 1) ≡ hex_digit n ∷ []
digit_at n small =
    let one : n + 1 - n ≡ 1 = omega arith in
    let long : n < length digits = small in
    ap (λ k. take k (drop n digits)) one ∙ ap (take 1) (drop_more digits n 0 long) ∙ ap (λ d. d ∷ []) (digit_among 16 n tt small)
