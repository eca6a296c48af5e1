-- Sets of pages, as page vectors.
use Rattle.std.specs.Prelude.{ℕ, ◌+◌, ◌*◌, ◌/◌, ◌%◌, ◌<◌, ◌≡◌, Bool, true, false, List, slice_index}
use Rattle.pas_bits.specs.Bits.{has_bit}

-- the page is in the set of these words
abbrev pub is_marked : List ℕ → ℕ → Bool
is_marked words page = has_bit (slice_index words (page / 64)) (page % 64)

-- the bit is set, and no higher one of the word is
pub record IsHighest (word b : ℕ) : Type 0 where
  pub within : b < 64
  pub set : has_bit word b ≡ true
  pub highest : (c : ℕ) → b < c → has_bit word c ≡ false

-- the page behind the highest one of the block whose bit is set
pub record IsBehind (block word next : ℕ) : Type 0 where
  pub bit : ℕ
  pub highest : IsHighest word bit
  pub behind : next ≡ 64 * block + bit + 1
