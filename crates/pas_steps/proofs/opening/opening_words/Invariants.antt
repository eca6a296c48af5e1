-- The free words below the number are filled.
use Rattle.std.proofs.Common.{◌≡◌, ℕ, ◌+◌, ◌-◌, ◌*◌, ◌^◌, if◌then◌else◌, vec_len, slice_index, nat_lt}
use Rattle.pas_profile.specs.{Profiles.IsWordIn, Layouts.{index_of, words_of}, declared.word.Word.Word}
use Rattle.pas_steps.proofs.opening.opening_words.Given as goal

-- a word's value where the first n free words are filled, 4 a page
abbrev pub filled : ℕ → Word → ℕ
filled n (Word.Free page word) = if nat_lt (4 * (page - 1) + word) n then 2 ^ 64 - 1 else 0
filled n s = 0

abbrev pub invariant-loop-number : goal.invariant-loop-number
invariant-loop-number l = record {
  sized : vec_len l.words ≡ words_of l.layout.pages l.layout.heaps;
  values : (w : Word) → IsWordIn l.layout.pages l.layout.heaps w → slice_index l.words.items (index_of l.layout.pages w) ≡ filled l.number w;
}
