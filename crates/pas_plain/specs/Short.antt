-- Which pages are noted as short of free grains.
use Rattle.std.specs.Prelude.{ℕ, ◌≡◌, ◌≤◌, ◌<◌, true, length}
use Rattle.pas_bits.specs.Bits.{has_bit}
use Rattle.pas_steps.specs.{Paged.value_in, Told.{free_by, IsShort}, declared.paged.PagedWords.PagedWords}
use Rattle.pas_plain.specs.{ShortRows.{has_page, row_at}, declared.short.ShortPages.ShortPages}

-- the row at this place is that of this run
pub record IsRowOf (short : ShortPages) (grains align at : ℕ) : Type 0 where
  pub within : at < length short.rows.items
  pub grains_are : (row_at short.rows.items at).grains ≡ grains
  pub align_is : (row_at short.rows.items at).align ≡ align

-- some row of this run has the page
pub record HasNote (short : ShortPages) (grains align p : ℕ) : Type 0 where
  pub at : ℕ
  pub row : IsRowOf short grains align at
  pub here : has_page (row_at short.rows.items at).pages p ≡ true

-- the page is one of so many, and short of such a run
pub record IsShortPage (pages : ℕ) (words : PagedWords) (grains align p : ℕ) : Type 0 where
  pub of_region : (1 ≤ p) × (p ≤ pages)
  pub short : IsShort (free_by (value_in words) p) grains align

-- no bit is set in the new word that wasn't in the old one
abbrev pub GotNone : ℕ → ℕ → Type 0
GotNone old new = (b : ℕ) → b < 64 → has_bit new b ≡ true → has_bit old b ≡ true
