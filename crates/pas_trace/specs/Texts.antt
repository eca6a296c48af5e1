-- Lines and words of a text, as functions on its bytes.
use Rattle.std.specs.Prelude.{ℕ, ◌==◌, ◌≡◌, if◌then◌else◌, List, [], ◌∷◌, ◌++◌}

-- the pieces of the bytes between the separators; there is always one
abbrev pub put_first : ℕ → List (List ℕ) → List (List ℕ)
put_first b [] = (b ∷ []) ∷ []
put_first b (p ∷ ps) = (b ∷ p) ∷ ps

abbrev pub pieces : ℕ → List ℕ → List (List ℕ)
pieces separator [] = [] ∷ []
pieces separator (b ∷ bs) = if b == separator then [] ∷ pieces separator bs else put_first b (pieces separator bs)

-- a piece at the end is a line only if it isn't empty
abbrev pub without_empty_end : List (List ℕ) → List (List ℕ)
without_empty_end [] = []
without_empty_end ([] ∷ []) = []
without_empty_end ((b ∷ bs) ∷ []) = (b ∷ bs) ∷ []
without_empty_end (p ∷ q ∷ ps) = p ∷ without_empty_end (q ∷ ps)

-- the lines of a text
abbrev pub lines_of : List ℕ → List (List ℕ)
lines_of text = without_empty_end (pieces 10 text)

-- the text ends behind a line: whatever follows, its lines come first and then those of what follows
abbrev pub IsWhole : List ℕ → Type 0
IsWhole text = (rest : List ℕ) → lines_of (text ++ rest) ≡ lines_of text ++ lines_of rest

abbrev pub without_empty : List (List ℕ) → List (List ℕ)
without_empty [] = []
without_empty ([] ∷ ps) = without_empty ps
without_empty ((b ∷ bs) ∷ ps) = (b ∷ bs) ∷ without_empty ps

-- the words of a line: one or more spaces separate them, and spaces at both ends don't count. Every other byte belongs to a word
abbrev pub words_of : List ℕ → List (List ℕ)
words_of line = without_empty (pieces 32 line)
