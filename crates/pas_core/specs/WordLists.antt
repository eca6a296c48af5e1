-- Words that a region keeps in a row, each at its place.
use Rattle.std.specs.Prelude.{◌≡◌, ℕ, List, length, slice_index}
use Rattle.pas_profile.specs.{Layouts.{index_of, words_of}, Profiles.IsWordOf, declared.{profile.Profile.Profile, word.Word.Word}}
use Rattle.pas_steps.specs.Lists.{Whole, word_after}

-- each word of the profile is at its place, and has its value after the list
pub record AreWordsAfter (f : Profile) (words : List ℕ) (l : Whole) : Type 0 where
  pub sized : length words ≡ words_of f.pages f.heaps
  pub values : (w : Word) → IsWordOf f w → slice_index words (index_of f.pages w) ≡ word_after l w
