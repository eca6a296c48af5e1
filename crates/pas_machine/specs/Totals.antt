-- What totals of a state are made of: sums, and what is counted of the pages 1 to P and of the grains of these pages.
use Rattle.std.specs.Prelude.{ℕ, zero, suc, ◌+◌, ◌*◌, Bool, true, false, Option, None, Some}
use Rattle.pas_profile.specs.declared.directory.Directory.{Directory}
use Rattle.pas_machine.specs.State.{Live}

-- the sum over the numbers below n
abbrev pub sum_below : ℕ → (ℕ → ℕ) → ℕ
sum_below zero v = 0
sum_below (suc n) v = sum_below n v + v n

abbrev pub has_deed : Option Directory → Bool
has_deed None = false
has_deed (Some d) = true

abbrev pub has_block : Option Live → Bool
has_block None = false
has_block (Some b) = true

-- the i-th page, from 0 on, and the address of the i-th grain of the region
abbrev pub page_at : ℕ → ℕ
page_at i = i + 1

abbrev pub address_at : ℕ → ℕ
address_at i = 4096 + 16 * i
