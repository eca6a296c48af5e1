-- The random numbers. Their source is a number below 2 ^ 64, which is the seed at first.
use Rattle.std.specs.Prelude.{ℕ, zero, suc, ◌+◌, ◌*◌, ◌/◌, ◌%◌, ◌^◌}

-- each draw first moves the source on, by a linear congruence
unfoldable pub moved : ℕ → ℕ
moved x = (x * 6364136223846793005 + 1442695040888963407) % 2 ^ 64

-- the number below n that a draw takes from its high bits
unfoldable pub drawn : ℕ → ℕ → ℕ
drawn x n = x / 2 ^ 33 % n

-- the source after so many draws
abbrev pub moved_by : ℕ → ℕ → ℕ
moved_by zero x = x
moved_by (suc k) x = moved (moved_by k x)

-- what the draw of this number, from 1, gives below n
abbrev pub draw : ℕ → ℕ → ℕ → ℕ
draw number x n = drawn (moved_by number x) n
