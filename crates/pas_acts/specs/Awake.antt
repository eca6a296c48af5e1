-- The threads of a phase, by a mask of those that have an operation in it.
use Rattle.std.specs.Prelude.{ℕ, not, List}
use Rattle.pas_bits.specs.{Masks.is_set, declared.mask.Mask4.Mask4}
use Rattle.pas_trace.specs.Acts.{threads_where}

-- of so many, those of the mask, which are awake, and the others, which are idle
abbrev pub awake_in : Mask4 → ℕ → List ℕ
awake_in awake threads = threads_where (is_set awake) threads

abbrev pub idle_in : Mask4 → ℕ → List ℕ
idle_in awake threads = threads_where (λ k. not (is_set awake k)) threads
