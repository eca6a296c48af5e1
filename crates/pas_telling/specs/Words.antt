-- The lists of words that a call accepts.
use Rattle.std.specs.Prelude.{ℕ, ◌≡◌, ◌⊎◌, List, [], ◌∷◌, Some, codes, map}
use denote.Ref.{Bor}
use Rattle.pas_trace.specs.Numbers.{number_of}
use Rattle.pas_generate.specs.Traces.{IsJob}
use Rattle.pas_telling.specs.declared.manner.Manner.{Manner}

-- the texts of the words
abbrev pub texts_of : List (Bor (List ℕ)) → List (List ℕ)
texts_of words = map (λ w. w.now) words

-- the word for a replay in this manner
abbrev pub word_of : Manner → List ℕ
word_of Manner.InOrder = codes "order"
word_of Manner.OnThreads = codes "run"

-- the words ask for a replay of the input in this manner: they are its one word
abbrev pub IsReplaying : Manner → List (List ℕ) → Type 0
IsReplaying manner words = words ≡ word_of manner ∷ []

-- the words ask for a check of the transcript in the input: they are its one word
abbrev pub IsChecking : List (List ℕ) → Type 0
IsChecking words = words ≡ codes "check" ∷ []

-- .. or for either, so that the input is read
abbrev pub ReadsInput : List (List ℕ) → Type 0
ReadsInput words = ((manner : Manner) × IsReplaying manner words) ⊎ IsChecking words

-- four words are these numbers, each within its range: decimals without a sign and without a leading zero
pub record IsNumbers (s o t p : List ℕ) (seed ops threads pages : ℕ) : Type 0 where
  pub seed_is : number_of s ≡ Some seed
  pub ops_is : number_of o ≡ Some ops
  pub threads_is : number_of t ≡ Some threads
  pub pages_is : number_of p ≡ Some pages
  pub job : IsJob ops threads pages

-- the words are `gen SEED OPS THREADS PAGES` with these numbers
pub record IsGen (words : List (List ℕ)) (seed ops threads pages : ℕ) : Type 0 where
  pub s : List ℕ
  pub o : List ℕ
  pub t : List ℕ
  pub p : List ℕ
  pub words_are : words ≡ codes "gen" ∷ s ∷ o ∷ t ∷ p ∷ []
  pub numbers : IsNumbers s o t p seed ops threads pages

abbrev pub IsAccepted : List (List ℕ) → Type 0
IsAccepted words = ((manner : Manner) × IsReplaying manner words) ⊎ IsChecking words ⊎ ((seed ops threads pages : ℕ) × IsGen words seed ops threads pages)
