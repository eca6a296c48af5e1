-- Where the words of a region stand, and what they are at the opening.
use Rattle.std.specs.Prelude.{ℕ, ◌+◌, ◌-◌, ◌*◌, ◌^◌, ◌==◌, Bool, ◌&&◌}
use Rattle.pas_profile.specs.{declared.word.Word.Word, Profiles.vector_words}

-- the place of a word in a region of so many pages
abbrev pub index_of : ℕ → Word → ℕ
index_of pages Word.Epoch = 0
index_of pages (Word.Free page word) = 1 + 263 * (page - 1) + word
index_of pages (Word.Life page grain) = 1 + 263 * (page - 1) + 4 + grain
index_of pages (Word.Deed page) = 1 + 263 * (page - 1) + 260
index_of pages (Word.Backed page) = 1 + 263 * (page - 1) + 261
index_of pages (Word.Stamp page) = 1 + 263 * (page - 1) + 262
index_of pages (Word.Parked j) = 1 + 263 * pages + j
index_of pages (Word.Empty j) = 1 + 263 * pages + vector_words pages + j
index_of pages (Word.Eligible d j) = 1 + 263 * pages + 2 * vector_words pages + d * vector_words pages + j

-- the number of all words
abbrev pub words_of : ℕ → ℕ → ℕ
words_of pages heaps = 1 + 263 * pages + 2 * vector_words pages + 23 * heaps * vector_words pages

-- what a word is at the opening: all grains are free, and everything else is 0
abbrev pub opening : Word → ℕ
opening Word.Epoch = 0
opening (Word.Free page word) = 2 ^ 64 - 1
opening (Word.Life page grain) = 0
opening (Word.Deed page) = 0
opening (Word.Backed page) = 0
opening (Word.Stamp page) = 0
opening (Word.Parked j) = 0
opening (Word.Empty j) = 0
opening (Word.Eligible d j) = 0

-- A word's name as three numbers, so that two names are compared by three tests. Names of one field have 0 as the minor one.
abbrev pub word_kind : Word → ℕ
word_kind Word.Epoch = 0
word_kind (Word.Free page word) = 1
word_kind (Word.Life page grain) = 2
word_kind (Word.Deed page) = 3
word_kind (Word.Backed page) = 4
word_kind (Word.Stamp page) = 5
word_kind (Word.Parked j) = 6
word_kind (Word.Empty j) = 7
word_kind (Word.Eligible d j) = 8

abbrev pub word_minor : Word → ℕ
word_minor Word.Epoch = 0
word_minor (Word.Free page word) = word
word_minor (Word.Life page grain) = grain
word_minor (Word.Deed page) = 0
word_minor (Word.Backed page) = 0
word_minor (Word.Stamp page) = 0
word_minor (Word.Parked j) = 0
word_minor (Word.Empty j) = 0
word_minor (Word.Eligible d j) = d

abbrev pub word_major : Word → ℕ
word_major Word.Epoch = 0
word_major (Word.Free page word) = page
word_major (Word.Life page grain) = page
word_major (Word.Deed page) = page
word_major (Word.Backed page) = page
word_major (Word.Stamp page) = page
word_major (Word.Parked j) = j
word_major (Word.Empty j) = j
word_major (Word.Eligible d j) = j

abbrev pub same_word : Word → Word → Bool
same_word x y = (word_kind x == word_kind y) && (word_minor x == word_minor y) && (word_major x == word_major y)
