-- Page vectors: page p stands in bit p % 64 of word p / 64.
use Rattle.std.specs.Prelude.{ℕ, ◌*◌, ◌/◌, ◌%◌, ◌^◌, ◌<◌, ◌≤◌, ◌≡◌, Bool, true, false}
use Rattle.pas_bits.specs.Bits.{has_bit}

-- the page's bit in its word
abbrev pub page_mask : ℕ → ℕ
page_mask page = 1 * 2 ^ (page % 64) % 2 ^ 64

-- the page's bit is set in this word
abbrev pub is_in_word : ℕ → ℕ → Bool
is_in_word word page = has_bit word (page % 64)

-- of the pages of the word of this number, none from `next` on has its bit set
abbrev pub HasNoPage : ℕ → ℕ → ℕ → Type 0
HasNoPage word number next = (p : ℕ) → next ≤ p → p / 64 ≡ number → is_in_word word p ≡ false

-- the page is the lowest of them whose bit is set
pub record IsLowestPage (word number next page : ℕ) : Type 0 where
  pub above : next ≤ page
  pub here : page / 64 ≡ number
  pub set : is_in_word word page ≡ true
  pub lowest : (p : ℕ) → next ≤ p → p / 64 ≡ number → p < page → is_in_word word p ≡ false
