-- Rows of eligible words, which are read before any of them is searched. The page p of a row whose first word is that of a block stands in
-- bit p % 64 of the word p / 64 - block.
use Rattle.std.specs.Prelude.{ℕ, ◌+◌, ◌-◌, ◌*◌, ◌/◌, ◌<◌, ◌≤◌, ◌≡◌, min, Bool, true, false, List, [], ◌∷◌, length, slice_index}
use Rattle.pas_bits.specs.Rows.{is_set}
use Rattle.pas_profile.specs.{Directories.number_of, declared.{directory.Directory.Directory, profile.Profile.Profile, word.Word.{Word as TheWord, Word}}}
use Rattle.pas_steps.specs.{Desks.{Standing, AnyView, Adds, made}, Past.Once, declared.step.{Made.Made, Step.TheVariants.Look}}

-- ---- what a row shows
abbrev pub shows_page : List ℕ → ℕ → ℕ → Bool
shows_page row block p = is_set row (p - 64 * block)

-- no page from `next` on
abbrev pub ShowsNone : List ℕ → ℕ → ℕ → Type 0
ShowsNone row block next = (p : ℕ) → next ≤ p → 64 * block ≤ p → shows_page row block p ≡ false

-- this page, and no lower one from `next` on
pub record IsLowestShown (row : List ℕ) (block next page : ℕ) : Type 0 where
  pub from_next : next ≤ page
  pub from_block : 64 * block ≤ page
  pub within : page < 64 * block + 512
  pub shown : shows_page row block page ≡ true
  pub lower : (p : ℕ) → next ≤ p → 64 * block ≤ p → p < page → shows_page row block p ≡ false

-- ---- how it is read
-- looks at words in order, from this place on, with these answers, the newest first
abbrev pub looks_from : (ℕ → TheWord) → ℕ → List ℕ → List Made
looks_from word from [] = []
looks_from word from (a ∷ more) = made (Look (word (from + length more))) a ∷ looks_from word from more

-- those at the eligible words of the directory of this number from this block on
abbrev pub eligible_looks : ℕ → ℕ → List ℕ → List Made
eligible_looks number block answers = looks_from (λ j. Word.Eligible number j) block answers

-- this eligible word was read so
abbrev pub WordReadHere : ℕ → ℕ → ℕ → Made → List Made → Type 0
WordReadHere number block a m before = (m.step ≡ Look (Word.Eligible number block)) × (m.answer ≡ a)

-- the words from that of `block` on to below `end` were read, each once and the lowest first; zeros stand behind them
pub record ReadsRow (d : Directory) (block end : ℕ) (desk desk' : Standing) (row : List ℕ) : Type 0 where
  pub steps : List Made
  pub adds : Adds desk desk' AnyView steps
  pub answers : List ℕ
  pub order : steps ≡ eligible_looks (number_of d) block answers
  pub count : block + length answers ≡ end
  pub words : (b : ℕ) → block ≤ b → b < end → Once (WordReadHere (number_of d) b (slice_index row (b - block))) steps
  pub rest : (b : ℕ) → end ≤ b → slice_index row (b - block) ≡ 0

-- ---- how many words are read
-- A row ends before a word whose number is a multiple of 8, or with the last word of the region: where the row of this page ends.
abbrev pub row_end : Profile → ℕ → ℕ
row_end f page = min (8 * (page / 512 + 1)) (f.pages / 64 + 1)

-- a row of a region of so many pages has so many words at most
abbrev pub row_words : ℕ → ℕ
row_words pages = min 8 (pages / 64 + 1)

-- the words from that of `next` on up to the end of the row of this page
abbrev pub words_to : Profile → ℕ → ℕ → ℕ
words_to f next page = row_end f page - next / 64
