-- Rows of words as sets of numbers: number n stands in bit n % 64 of word n / 64.
use Rattle.std.specs.Prelude.{ℕ, ◌*◌, ◌/◌, ◌%◌, ◌<◌, ◌≡◌, Bool, true, false, List, length, slice_index}
use Rattle.pas_bits.specs.Bits.{has_bit, count_below}

-- the bit of number n is set. A row has no bits behind its last word
abbrev pub is_set : List ℕ → ℕ → Bool
is_set words n = has_bit (slice_index words (n / 64)) (n % 64)

-- how many bits are set
unfoldable pub set_count : List ℕ → ℕ
set_count words = count_below (64 * length words) (is_set words)

-- no number below n has its bit set
abbrev pub IsClearBelow : List ℕ → ℕ → Type 0
IsClearBelow words n = (x : ℕ) → x < n → is_set words x ≡ false

-- no bit is set
abbrev pub IsEmpty : List ℕ → Type 0
IsEmpty words = (x : ℕ) → is_set words x ≡ false

-- some bit is set
abbrev pub HasMember : List ℕ → Type 0
HasMember words = (x : ℕ) × (is_set words x ≡ true)

-- the bit is set, and none that is lower
pub record IsLowestSet (words : List ℕ) (n : ℕ) : Type 0 where
  pub set : is_set words n ≡ true
  pub lowest : IsClearBelow words n

-- of the numbers below n each one of a is one of b
abbrev pub IsWithinBelow : List ℕ → List ℕ → ℕ → Type 0
IsWithinBelow a b n = (x : ℕ) → x < n → is_set a x ≡ true → is_set b x ≡ true

-- each number of a is one of b
abbrev pub IsWithin : List ℕ → List ℕ → Type 0
IsWithin a b = (x : ℕ) → is_set a x ≡ true → is_set b x ≡ true

-- some number is one of a and none of b
abbrev pub HasMemberOutside : List ℕ → List ℕ → Type 0
HasMemberOutside a b = (x : ℕ) × (is_set a x ≡ true) × (is_set b x ≡ false)
