-- Values of digits, digit by digit.
use Rattle.std.proofs.Common.{◌≡◌, ℕ, ◌+◌, ◌-◌, ◌*◌, ◌^◌, ◌<◌, ◌≤◌, nat_lt, nat_le, Bool, true, false, ◌&&◌, if◌then◌else◌, List, [], ◌∷◌, ◌++◌, Option, None}
use Rattle.std.proofs.{Common.{Some, refl, arith, le-leb}, Math.Nat.pow-le-pow_right, lemmas.Bool.{and_from, and_parts}}
use Rattle.pas_trace.specs.Numbers.{is_digit, all_digits, value_from, is_hex, all_hex, hex_from}

-- the value of digits that follow a value, if they are digits and it is below 2^64
abbrev pub value_after : ℕ → List ℕ → Option ℕ
value_after v bs = if all_digits bs && nat_lt (value_from v bs) 18446744073709551616 then Some (value_from v bs) else None

pub value-grows : (v : ℕ) (bs : List ℕ) → v ≤ value_from v bs
value-grows v [] = omega arith
value-grows v (b ∷ bs) = omega (arith, value-grows (10 * v + (b - 48)) bs)

pub if-false : (x y : Bool) (o : Option ℕ) → y ≡ false → (if x && y then o else None) ≡ None
if-false x y o e = search arith

-- A byte from 48 to 57 is a digit.
pub digit-is : (b : ℕ) → 48 ≤ b → b ≤ 57 → is_digit b ≡ true
digit-is b lo hi = and_from (nat_le 48 b) (nat_le b 57) (le-leb 48 b lo) (le-leb b 57 hi)

-- One digit more makes the value ten times as large, and adds the digit.
pub value-step : (v b : ℕ) (bs : List ℕ) → 48 ≤ b → b ≤ 57 → value_after v (b ∷ bs) ≡ value_after (10 * v + (b - 48)) bs
value-step v b bs lo hi = let e : is_digit b ≡ true = digit-is b lo hi in rw e refl

-- one digit more at the end
pub digits-add : (ds : List ℕ) (d : ℕ) → all_digits ds ≡ true → is_digit d ≡ true → all_digits (ds ++ d ∷ []) ≡ true
digits-add [] d e digit = and_from (is_digit d) true digit refl
digits-add (b ∷ ds) d e digit = let p = and_parts (is_digit b) (all_digits ds) e in and_from _ _ p.0 (digits-add ds d p.1 digit)

-- A digit at the end makes the value of digits ten times as large, and is added.
pub value-add : (n : ℕ) (ds : List ℕ) (d : ℕ) → value_from n (ds ++ d ∷ []) ≡ 10 * value_from n ds + (d - 48)
value-add n [] d = refl
value-add n (b ∷ ds) d = value-add (10 * n + (b - 48)) ds d

-- ---- hexadecimal
abbrev pub hex_after : ℕ → List ℕ → Option ℕ
hex_after v bs = if all_hex bs then Some (hex_from v bs) else None

-- A byte that is no hexadecimal digit makes the value none.
pub hex-stop : (v b : ℕ) (bs : List ℕ) → is_hex b ≡ false → hex_after v (b ∷ bs) ≡ None
hex-stop v b bs e = rw e refl

-- what the code reads of a digit
pub none-tested : (t : Bool) (x : ℕ) → None ≡ (if t then Some x else None) → t ≡ false
none-tested t x e = search arith

pub some-tested : (t : Bool) (x y : ℕ) → Some y ≡ (if t then Some x else None) → (t ≡ true) × (y ≡ x)
some-tested t x y e = search arith

-- the value stays small
pub hex-room : (v i : ℕ) → v < 16 ^ i → i ≤ 7 → v < 268435456
hex-room v i lt le =
    let p : 16 ^ i ≤ 16 ^ 7 = pow-le-pow_right (omega arith) le in omega (arith, lt, p)

-- A number of at most eight hexadecimal digits is below 2^32.
pub hex-bound : (v i : ℕ) → v < 16 ^ i → i ≤ 8 → v < 4294967296
hex-bound v i lt le =
    let p : 16 ^ i ≤ 16 ^ 8 = pow-le-pow_right (omega arith) le in omega (arith, lt, p)
