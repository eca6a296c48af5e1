-- Numbers and addresses, as words.
use Rattle.std.specs.Prelude.{ℕ, ◌+◌, ◌-◌, ◌*◌, ◌^◌, ◌==◌, nat_lt, nat_le, Bool, true, false, ◌&&◌, ◌||◌, if◌then◌else◌, List, [], ◌∷◌, Option, None, Some}
use Rattle.std.specs.Prelude.{length}

abbrev pub is_digit : ℕ → Bool
is_digit b = nat_le 48 b && nat_le b 57

abbrev pub all_digits : List ℕ → Bool
all_digits [] = true
all_digits (b ∷ bs) = is_digit b && all_digits bs

-- the value of digits that follow a value
abbrev pub value_from : ℕ → List ℕ → ℕ
value_from n [] = n
value_from n (b ∷ bs) = value_from (10 * n + (b - 48)) bs

-- a decimal without a leading zero, `0` itself aside
abbrev pub is_decimal : List ℕ → Bool
is_decimal [] = false
is_decimal (b ∷ []) = is_digit b
is_decimal (b ∷ c ∷ bs) = nat_le 49 b && all_digits (b ∷ c ∷ bs)

-- a number is a decimal below 2^64
abbrev pub number_of : List ℕ → Option ℕ
number_of word = if is_decimal word && nat_lt (value_from 0 word) (2 ^ 64) then Some (value_from 0 word) else None

-- a lower-case hexadecimal digit
abbrev pub is_hex : ℕ → Bool
is_hex b = is_digit b || (nat_le 97 b && nat_le b 102)

abbrev pub hex_value : ℕ → ℕ
hex_value b = if is_digit b then b - 48 else b - 87

abbrev pub all_hex : List ℕ → Bool
all_hex [] = true
all_hex (b ∷ bs) = is_hex b && all_hex bs

abbrev pub hex_from : ℕ → List ℕ → ℕ
hex_from n [] = n
hex_from n (b ∷ bs) = hex_from (16 * n + hex_value b) bs

-- an address is `0x` and eight lower-case hexadecimal digits
abbrev pub address_of_word : List ℕ → Option ℕ
address_of_word [] = None
address_of_word (b ∷ []) = None
address_of_word (b ∷ c ∷ bs) = if (b == 48) && (c == 120) && (length bs == 8) && all_hex bs then Some (hex_from 0 bs) else None
