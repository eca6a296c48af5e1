-- The report from the words of a region at rest: counts over its pages and grains, and the marks of a page.
use Rattle.std.specs.Prelude.{ℕ, zero, suc, ◌+◌, ◌*◌, ◌/◌, ◌%◌, ◌^◌, ◌≤◌, ◌≡◌, ◌==◌, ◌⊎◌, Bool, false, not, List, [], ◌++◌, Option, None, Some, codes}
use Rattle.pas_bits.specs.Bits.{has_bit, count_below}
use Rattle.pas_profile.specs.{Directories.{deed_word_of, number_of, directory_read}, Lives.{turn_of, is_live}, Profiles.{IsDirectoryOf, IsPage}}
use Rattle.pas_profile.specs.declared.{profile.Profile.Profile, directory.Directory.Directory, word.Word.Word}
use Rattle.pas_machine.specs.Totals.{sum_below, page_at}
use Rattle.pas_steps.specs.{States.{profile_of, word_in}, declared.state.State.State}
use Rattle.pas_records.specs.Marks.{Marked}
use Rattle.pas_report.specs.{Reports.{grains_that, page_text}, Totals.totals_text, declared.totals.Totals.Totals}

-- the pages of the region, and its grains
abbrev pub pages_of : State → ℕ
pages_of state = (profile_of state).pages

abbrev pub grains_in : State → ℕ
grains_in state = 256 * pages_of state

-- the word is 0, or it records a directory of the profile
abbrev pub IsDeedWord : Profile → ℕ → Type 0
IsDeedWord f word = (word ≡ 0) ⊎ ((d : Directory) × IsDirectoryOf f d × (word ≡ deed_word_of d))

-- the deed word of each page is one of these
abbrev pub AreDeedWords : State → Type 0
AreDeedWords state = (page : ℕ) → IsPage (profile_of state) page → IsDeedWord (profile_of state) (word_in state (Word.Deed page))

-- ---- a page
-- the page has a block at so many of its grains, and so many of them are free
abbrev pub live_counted_on : State → ℕ → ℕ
live_counted_on state page = grains_that (λ b. is_live (word_in state (Word.Life page b)))

abbrev pub free_counted_on : State → ℕ → ℕ
free_counted_on state page = grains_that (λ b. has_bit (word_in state (Word.Free page (b / 64))) (b % 64))

-- the page is offered in this directory: its bit of the directory's page vector is set. A page without a directory isn't
abbrev pub offered_by : State → ℕ → Option Directory → Bool
offered_by state page None = false
offered_by state page (Some d) = has_bit (word_in state (Word.Eligible (number_of d) (page / 64))) (page % 64)

-- the marks of a page: whether it is backed, and its bits of three page vectors
abbrev pub marked_in : State → ℕ → Marked
marked_in state page = record {
  backed = word_in state (Word.Backed page) == 1;
  offered = offered_by state page (directory_read (word_in state (Word.Deed page)));
  parked = has_bit (word_in state (Word.Parked (page / 64))) (page % 64);
  hinted = has_bit (word_in state (Word.Empty (page / 64))) (page % 64);
}

-- the line of a page with this directory; a page without one has none
abbrev pub line_by_words : State → ℕ → Option Directory → List ℕ
line_by_words state page None = []
line_by_words state page (Some d) = page_text page d (live_counted_on state page) (free_counted_on state page) (word_in state (Word.Stamp page)) (marked_in state page)

abbrev pub page_by_words : State → ℕ → List ℕ
page_by_words state page = line_by_words state page (directory_read (word_in state (Word.Deed page)))

-- .. of the pages 1 to n
abbrev pub pages_by_words : State → ℕ → List ℕ
pages_by_words state zero = []
pages_by_words state (suc n) = pages_by_words state n ++ page_by_words state (suc n)

-- ---- the region
-- the life word of the i-th grain of the region, from 0 on
abbrev pub life_of_grain : State → ℕ → ℕ
life_of_grain state i = word_in state (Word.Life (page_at (i / 256)) (i % 256))

-- the blocks that ended, as the turn of a grain is the number of those that ended there; and the grains where a block lives
abbrev ended_counted : State → ℕ
ended_counted state = sum_below (grains_in state) (λ i. turn_of (life_of_grain state i))

abbrev live_counted : State → ℕ
live_counted state = count_below (grains_in state) (λ i. is_live (life_of_grain state i))

-- THE TOTALS by the words: the pages whose deed is written, those whose backed word is 1, and blocks, each of which lives or ended
abbrev pub totals_counted : State → Totals
totals_counted state = record {
  deeds = count_below (pages_of state) (λ i. not (word_in state (Word.Deed (page_at i)) == 0));
  backed = count_below (pages_of state) (λ i. word_in state (Word.Backed (page_at i)) == 1);
  live = live_counted state;
  given = ended_counted state + live_counted state;
  ended = ended_counted state;
}

-- so many blocks live at the first n grains, and so many ended there; each grain has one live block at most, and a turn below 2^40
pub record AreCounted (state : State) (n live ended : ℕ) : Type 0 where
  pub live_is : live ≡ count_below n (λ i. is_live (life_of_grain state i))
  pub ended_is : ended ≡ sum_below n (λ i. turn_of (life_of_grain state i))
  pub few : live ≤ n
  pub small : ended ≤ n * 2 ^ 40

-- the line of these totals
abbrev pub totals_by_words : State → List ℕ
totals_by_words state = totals_text (totals_counted state)

-- THE REPORT by the words
abbrev pub report_by_words : State → List ℕ
report_by_words state = codes "report\n" ++ (pages_by_words state (pages_of state) ++ totals_by_words state)
