-- Life words. A word that isn't live is the turn alone, which is the number of blocks that ended at the grain.
use Rattle.std.specs.Prelude.{ℕ, ◌+◌, ◌*◌, ◌/◌, ◌%◌, ◌^◌, nat_le, Bool, if◌then◌else◌}

abbrev pub life_word_of : ℕ → ℕ → Bool → ℕ
life_word_of turn grains live = turn + grains * 2 ^ 40 + (if live then 2 ^ 63 else 0)

-- the word of a live block
abbrev pub live_word : ℕ → ℕ → ℕ
live_word turn grains = turn + grains * 2 ^ 40 + 2 ^ 63

abbrev pub turn_of : ℕ → ℕ
turn_of word = word % 2 ^ 40

abbrev pub grains_of : ℕ → ℕ
grains_of word = word / 2 ^ 40 % 2 ^ 23

abbrev pub is_live : ℕ → Bool
is_live word = nat_le (2 ^ 63) word
