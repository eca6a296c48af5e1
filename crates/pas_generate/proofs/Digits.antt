-- The decimal of a number is read as the number.
use Rattle.std.proofs.Common.{◌≡◌, ℕ, ◌+◌, ◌/◌, ◌%◌, ◌^◌, ◌<◌, ◌≤◌, nat_lt, nat_le, Bool, true, if◌then◌else◌, List, [], ◌∷◌, ◌++◌, length, get_or, None, Some}
use Rattle.std.proofs.{Common.{ap, ◌∙◌, arith, length-append, le-leb, lt-ltb}, lemmas.{Bool.{and_from, and_parts}, Fmt.{decimal_by_steps, decimal_digit}}}
use Rattle.std.{proofs.lemmas.Fmt.first_decimal, specs.Fmt.decimal}
use Rattle.pas_trace.{specs.Numbers.{is_digit, all_digits, value_from, is_decimal, number_of}, proofs.Digits.{digits-add, value-add}}

digit-is : (d : ℕ) → d < 10 → is_digit (48 + d) ≡ true
digit-is d small = and_from (nat_le 48 (48 + d)) (nat_le (48 + d) 57) (le-leb 48 (48 + d) (omega arith)) (le-leb (48 + d) 57 (omega arith))

-- the bytes are digits of this value
pub record AreDigits (n : ℕ) (bytes : List ℕ) : Type 0 where
  pub some : 0 < length bytes
  pub digits : all_digits bytes ≡ true
  pub value_is : value_from 0 bytes ≡ n

one-digit : (n : ℕ) → n < 10 → AreDigits n ((48 + n) ∷ [])
one-digit n small = search (arith, and_from, digit-is)

more-digits : (n : ℕ) (ds : List ℕ) → 10 ≤ n → AreDigits (n / 10) ds → AreDigits n (ds ++ ((48 + n % 10) ∷ []))
more-digits n ds large h = search (arith, length-append, digits-add, digit-is, value-add)

-- The decimal digits of a number below 2^64 read as that number.
pub are-digits : (n : ℕ) → n < 2 ^ 64 → AreDigits n (decimal n)
are-digits = decimal_by_steps AreDigits one-digit more-digits

decimal-from : (w : List ℕ) → all_digits w ≡ true → 0 < length w → 48 < get_or w 0 0 → is_decimal w ≡ true
decimal-from a digits d head = search (arith, and_parts, and_from, nat_le, le-leb)

is-decimal : (n : ℕ) → n < 2 ^ 64 → is_decimal (decimal n) ≡ true
is-decimal a small = search (arith, decimal_digit, are-digits, decimal-from, first_decimal)

-- it reads back
pub number-back : (n : ℕ) → n < 2 ^ 64 → number_of (decimal n) ≡ Some n
number-back n small =
    let value_is : value_from 0 (decimal n) ≡ n = (are-digits n small).value_is in
    let fits : nat_lt (value_from 0 (decimal n)) (2 ^ 64) ≡ true = lt-ltb (value_from 0 (decimal n)) (2 ^ 64) (omega arith) in
    let tested = and_from (is_decimal (decimal n)) (nat_lt (value_from 0 (decimal n)) (2 ^ 64)) (is-decimal n small) fits in
    ap (λ (t : Bool). if t then Some (value_from 0 (decimal n)) else None) tested ∙ ap Some value_is
