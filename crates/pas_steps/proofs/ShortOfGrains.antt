-- Pages that are short of free grains.
use Rattle.std.proofs.Common.{◌≡◌, ℕ, ◌<◌, Bool, arith}
use Rattle.pas_steps.specs.Told.{IsShort}

-- A page of which the same grains are free is as short.
pub short_alike : {free same : ℕ → Bool} (grains align : ℕ) → ((g : ℕ) → g < 256 → free g ≡ same g) → IsShort free grains align → IsShort same grains align
short_alike grains align alike short = search arith
