-- Alignments fit a byte.
use Rattle.std.proofs.Common.{◌≡◌, ℕ, zero, suc, ◌*◌, ◌%◌, ◌^◌, ◌<◌, refl, arith}

-- The alignment of a generated request is one byte.
pub align_fits : (n : ℕ) → n < 3 → 16 * 2 ^ n % 256 ≡ 16 * 2 ^ n
align_fits zero small = refl
align_fits (suc zero) small = refl
align_fits (suc (suc zero)) small = refl
align_fits (suc (suc (suc n))) small = absurd (omega arith)
