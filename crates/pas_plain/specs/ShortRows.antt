-- The rows of the notes of pages that are short of free grains.
use Rattle.std.specs.Prelude.{ℕ, ◌/◌, ◌%◌, Bool, List, get_or, replicate, slice_index}
use Rattle.pas_bits.specs.Bits.{has_bit}
use Rattle.pas_plain.specs.declared.short.ShortRow.{ShortRow}

-- a page is in this page vector
abbrev pub has_page : List ℕ → ℕ → Bool
has_page words p = has_bit (slice_index words (p / 64)) (p % 64)

abbrev pub no_row : ShortRow
no_row = record { grains = 0; align = 0; pages = replicate 257 0 }

-- the row at this place
abbrev pub row_at : List ShortRow → ℕ → ShortRow
row_at rows at = get_or rows at no_row
