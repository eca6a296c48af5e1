-- Which grains live blocks cover.
use Rattle.std.specs.Prelude.{ℕ, zero, suc, ◌+◌, ◌*◌, ◌/◌, Bool, false, ◌||◌, List, Option, None, Some}
use Rattle.pas_bits.specs.Runs.{in_run}
use Rattle.pas_profile.specs.{Blocks.length_of, declared.event.Event.Event}
use Rattle.pas_machine.specs.State.{Live, live_in}

-- the block that lives at an address covers the grain
abbrev pub covers : Option Live → ℕ → ℕ → Bool
covers None address g = false
covers (Some b) address g = in_run (address / 16) (length_of b.block) g

abbrev pub some_below : ℕ → (ℕ → Bool) → Bool
some_below zero p = false
some_below (suc n) p = p n || some_below n p

-- a live block covers the grain: one that begins there or before
abbrev pub is_covered : List Event → ℕ → Bool
is_covered es g = some_below (g + 1) (λ x. covers (live_in es (16 * x)) (16 * x) g)
