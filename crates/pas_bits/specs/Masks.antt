-- Masks of 256 bits as sets of numbers.
use Rattle.std.specs.Prelude.{ℕ, ◌+◌, ◌-◌, ◌/◌, ◌%◌, ◌<◌, ◌≤◌, ◌≡◌, nat_lt, Bool, true, false, if◌then◌else◌, slice_index}
use Rattle.pas_bits.specs.{Bits.{has_bit, count_below}, Runs.AreFree, declared.mask.Mask4.Mask4}

-- bit g of the mask is set. There are no bits from 256 on
abbrev pub is_set : Mask4 → ℕ → Bool
is_set mask g = has_bit (slice_index mask.0 (g / 64)) (g % 64)

-- how many bits are set
unfoldable pub set_count : Mask4 → ℕ
set_count mask = count_below 256 (is_set mask)

-- all bits of the run of n from g are set
abbrev pub AreSet : Mask4 → ℕ → ℕ → Type 0
AreSet mask = AreFree (is_set mask)

-- all bits below n are set
abbrev pub AllSetBelow : Mask4 → ℕ → Type 0
AllSetBelow mask n = (x : ℕ) → x < n → is_set mask x ≡ true

-- no bit from the one on and below the other is set
abbrev pub AreClear : Mask4 → ℕ → ℕ → Type 0
AreClear mask from end = (x : ℕ) → from ≤ x → x < end → is_set mask x ≡ false

-- no bit is set in both
abbrev pub AreApart : Mask4 → Mask4 → Type 0
AreApart a b = (x : ℕ) → is_set b x ≡ true → is_set a x ≡ false

-- no bit is set
abbrev pub IsEmpty : Mask4 → Type 0
IsEmpty mask = (g : ℕ) → g < 256 → is_set mask g ≡ false

-- some bit is set
abbrev pub HasMember : Mask4 → Type 0
HasMember mask = (g : ℕ) × (g < 256) × (is_set mask g ≡ true)

-- a bit is set at the number, or at one of the n - 1 numbers below it
abbrev pub IsNear : Mask4 → ℕ → ℕ → Type 0
IsNear mask x n = (g : ℕ) × (g ≤ x) × (x < g + n) × (is_set mask g ≡ true)

-- bit i of the 128 bits of two words, the lower one first
abbrev pub bit_of_two : ℕ → ℕ → ℕ → Bool
bit_of_two low high i = if nat_lt i 64 then has_bit low i else has_bit high (i - 64)

-- the bit is set, and none from the first one on is that is lower
pub record IsLowestSet (mask : Mask4) (from g : ℕ) : Type 0 where
  pub above : from ≤ g
  pub within : g < 256
  pub set : is_set mask g ≡ true
  pub lowest : AreClear mask from g

-- the bit is clear, and all lower ones are set
pub record IsLowestClear (mask : Mask4) (g : ℕ) : Type 0 where
  pub within : g < 256
  pub clear : is_set mask g ≡ false
  pub lowest : AllSetBelow mask g

-- the bits from the one on are set up to the first clear one after it, or up to 256
pub record IsRunEnd (mask : Mask4) (from end : ℕ) : Type 0 where
  pub above : from ≤ end
  pub within : end ≤ 256
  pub set : (x : ℕ) → from ≤ x → x < end → is_set mask x ≡ true
  pub clear : end < 256 → is_set mask end ≡ false

-- g is a multiple of `align`, and the run of n from g ends at `end` or before and has only set bits
pub record IsPlace (mask : Mask4) (n align end g : ℕ) : Type 0 where
  pub aligned : g % align ≡ 0
  pub within : g + n ≤ end
  pub set : AreSet mask g n

-- no number is such a place
abbrev pub HasNoPlace : Mask4 → ℕ → ℕ → ℕ → Type 0
HasNoPlace mask n align end = (h : ℕ) → IsPlace mask n align end h → ⊥

-- g is such a place, and no lower number is
pub record IsLowestPlace (mask : Mask4) (n align end g : ℕ) : Type 0 where
  pub place : IsPlace mask n align end g
  pub lowest : (h : ℕ) → h < g → IsPlace mask n align end h → ⊥
