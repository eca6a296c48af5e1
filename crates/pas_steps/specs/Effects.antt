-- What a step does to its one word.
use Rattle.std.specs.{Prelude.{ℕ, ◌+◌, ◌/◌, ◌%◌, ◌==◌, max, Bool, ◌&&◌, if◌then◌else◌, bit_and, bit_or}, Int.{bit_not, w64}}
use Rattle.pas_bits.specs.{Bits.has_bit, PageVectors.page_mask}
use Rattle.pas_profile.specs.{Directories.{deed_word_of, number_of}, Lives.live_word, Blocks.{grain_of, length_of}, declared.directory.Directory.Directory}
use Rattle.pas_profile.specs.declared.{word.Word.Word, name.Name.Name}
use Rattle.pas_steps.specs.declared.step.Step.{Step, TheVariants.{Look, Deed, Back, Take, Put, Give, End, EndSized, TakeRight, Offer, Park, Unpark, Stamp}}
use Rattle.pas_steps.specs.declared.step.Step.TheVariants.{Hint, Tick, Unback, Unhint}

-- ---- the words of a grain, which is a number of the region: `page * 256 + grain`
abbrev pub free_word_at : ℕ → Word
free_word_at g = Word.Free (g / 256) (g / 64 % 4)

abbrev pub life_word_at : ℕ → Word
life_word_at g = Word.Life (g / 256) (g % 256)

-- the grain is one of the mask's in this free word of the page
abbrev pub in_mask : ℕ → ℕ → ℕ → ℕ → Bool
in_mask page word mask g = (word == g / 64 % 4) && (page == g / 256) && has_bit mask (g % 64)

-- the end of the name with this guess succeeds, where this is the life word that it reads
abbrev pub succeeds : Name → ℕ → ℕ → Bool
succeeds name guess a = a == live_word name.turn guess

-- the life word after it
abbrev pub ended_word : Name → ℕ → ℕ → ℕ
ended_word name guess old = if succeeds name guess old then name.turn + 1 else old

-- ---- the words of a page in the page vectors
abbrev pub parked_word_at : ℕ → Word
parked_word_at page = Word.Parked (page / 64)

abbrev pub empty_word_at : ℕ → Word
empty_word_at page = Word.Empty (page / 64)

abbrev pub eligible_word_at : Directory → ℕ → Word
eligible_word_at directory page = Word.Eligible (number_of directory) (page / 64)

-- ---- the one word of a step, and its new value
abbrev pub target : Step → Word
target (Look word) = word
target (Deed page directory) = Word.Deed page
target (Back page) = Word.Backed page
target (Take page word mask) = Word.Free page word
target (Put page word mask) = Word.Free page word
target (Give block) = life_word_at (grain_of block.name)
target (End name guess) = life_word_at (grain_of name)
target (EndSized name room) = life_word_at (grain_of name)
target (TakeRight page directory) = eligible_word_at directory page
target (Offer page directory) = eligible_word_at directory page
target (Park page) = parked_word_at page
target (Unpark page) = parked_word_at page
target (Stamp page) = Word.Stamp page
target (Hint page) = empty_word_at page
target (Tick raised) = Word.Epoch
target (Unback page) = Word.Backed page
target (Unhint page) = empty_word_at page

-- the new value, from the epoch that the actor knows (0 where it knows none) and the old value
abbrev pub new_value : ℕ → Step → ℕ → ℕ
new_value epoch (Look word) old = old
new_value epoch (Deed page directory) old = if old == 0 then deed_word_of directory else old
new_value epoch (Back page) old = bit_or old 1
new_value epoch (Take page word mask) old = bit_and old (bit_not w64 mask)
new_value epoch (Put page word mask) old = bit_or old mask
new_value epoch (Give block) old = live_word block.name.turn (length_of block)
new_value epoch (End name guess) old = ended_word name guess old
new_value epoch (EndSized name room) old = ended_word name (room / 16) old
new_value epoch (TakeRight page directory) old = bit_and old (bit_not w64 (page_mask page))
new_value epoch (Offer page directory) old = bit_or old (page_mask page)
new_value epoch (Park page) old = bit_or old (page_mask page)
new_value epoch (Unpark page) old = bit_and old (bit_not w64 (page_mask page))
new_value epoch (Stamp page) old = max old epoch
new_value epoch (Hint page) old = bit_or old (page_mask page)
new_value epoch (Tick raised) old = max old raised
new_value epoch (Unback page) old = 0
new_value epoch (Unhint page) old = bit_and old (bit_not w64 (page_mask page))
