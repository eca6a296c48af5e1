-- Where blocks of a page end.
use Rattle.std.specs.Prelude.{ℕ, ◌+◌, ◌<◌, ◌≡◌, ◌==◌, nat_le, Bool, true, ◌&&◌}
use Rattle.pas_profile.specs.{Lives.{is_live, grains_of}, declared.word.Word.Word}
use Rattle.pas_steps.specs.{States.word_in, declared.state.State.State}

-- by the life word of this grain of a page, a live block begins there and ends with the grain x
abbrev pub ends_with : ℕ → ℕ → ℕ → Bool
ends_with word g x = is_live word && (nat_le 1 (grains_of word) && (g + grains_of word == x + 1))

-- a live block begins at one of the first n grains of the page, and ends with the grain x
abbrev pub IsEnd : State → ℕ → ℕ → ℕ → Type 0
IsEnd state page n x = (g : ℕ) × (g < n) × (ends_with (word_in state (Word.Life page g)) g x ≡ true)
