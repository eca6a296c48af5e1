-- The bits of a number, and how many numbers pass a test.
use Rattle.std.specs.{Prelude.{ℕ, zero, suc, ◌==◌, Bool, if◌then◌else◌}, Int.bit_at}

-- bit b of the number is set
abbrev pub has_bit : ℕ → ℕ → Bool
has_bit n b = bit_at n b == 1

-- how many numbers below n pass the test
abbrev pub count_below : ℕ → (ℕ → Bool) → ℕ
count_below zero p = 0
count_below (suc n) p = if p n then suc (count_below n p) else count_below n p
