-- The words of a region, of which those of a page stand in memory once one of them was written.
use Rattle.std.specs.Prelude.{ℕ, List, ◌+◌, ◌-◌, ◌*◌, ◌^◌, get_or, replicate, slice_index}
use Rattle.pas_profile.specs.{Profiles.vector_words, Layouts.opening, declared.word.Word.Word}
use Rattle.pas_steps.specs.declared.paged.{PageWords.PageWords, PagedWords.PagedWords}

-- ---- a page
-- that nobody used yet: all of its grains are free, and everything else is 0
abbrev pub opening_page : PageWords
opening_page = record { free = replicate 4 (2 ^ 64 - 1); backed = 0; stamp = 0 }

abbrev pub no_lives : List ℕ
no_lives = replicate 256 0

-- a word that stands on the page; each other one is left as at the opening. The life words stand apart
abbrev pub word_on : PageWords → Word → ℕ
word_on page (Word.Free p number) = slice_index page.free number
word_on page (Word.Backed p) = page.backed
word_on page (Word.Stamp p) = page.stamp
word_on page word = opening word

-- ---- the region
-- a page that has no memory yet is as at the opening
abbrev pub page_of : PagedWords → ℕ → PageWords
page_of words page = get_or words.pages.items (page - 1) opening_page

abbrev pub lives_of : PagedWords → ℕ → List ℕ
lives_of words page = get_or words.lives.items (page - 1) no_lives

-- a word of the region
abbrev pub value_in : PagedWords → Word → ℕ
value_in words Word.Epoch = words.epoch
value_in words (Word.Free page number) = word_on (page_of words page) (Word.Free page number)
value_in words (Word.Life page grain) = slice_index (lives_of words page) grain
value_in words (Word.Deed page) = slice_index words.deeds.items (page - 1)
value_in words (Word.Backed page) = word_on (page_of words page) (Word.Backed page)
value_in words (Word.Stamp page) = word_on (page_of words page) (Word.Stamp page)
value_in words (Word.Parked j) = slice_index words.parked.items j
value_in words (Word.Empty j) = slice_index words.empty.items j
value_in words (Word.Eligible d j) = slice_index words.eligible.items (d * vector_words words.layout.pages + j)
