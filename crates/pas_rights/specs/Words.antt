-- What is done to the four free words of a page, one after the other.
use Rattle.std.specs.Prelude.{ℕ, zero, suc, List, [], ◌∷◌, ◌++◌, slice_index}
use Rattle.pas_bits.specs.declared.mask.Mask4.{Mask4}
use Rattle.pas_steps.specs.{Views.all_ones, declared.step.Made.Made}

-- these steps for each free word below n, the lowest first
abbrev pub each_word : (ℕ → List Made) → ℕ → List Made
each_word steps zero = []
each_word steps (suc n) = steps n ++ each_word steps n

-- all grains of a page
abbrev pub full : Mask4
full = record { 0 = all_ones ∷ all_ones ∷ all_ones ∷ all_ones ∷ [] }

-- the words of a mask by their numbers, and words of all ones
abbrev pub words : Mask4 → ℕ → ℕ
words mask word = slice_index mask.0 word

abbrev pub ones : ℕ → ℕ
ones word = all_ones
