-- Bits of words.
use Rattle.std.specs.Prelude.{ℕ, ◌%◌, Bool}
use Rattle.pas_bits.specs.Bits.{has_bit}
use Rattle.pas_steps.specs.{Effects.free_word_at, Lists.{Whole, word_after}}

-- the bit of a grain of the region: it is set where the grain is free
abbrev pub free_bit : Whole → ℕ → Bool
free_bit l g = has_bit (word_after l (free_word_at g)) (g % 64)
