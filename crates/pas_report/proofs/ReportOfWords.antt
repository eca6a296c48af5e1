-- Where the words of a state agree with the machine that the events reach, their totals are the machine's.
use Rattle.std.proofs.Common.{◌≡◌, ℕ, ◌+◌, ◌^◌, ◌<◌, ◌==◌, not, Bool, true, false, if◌then◌else◌, List, sym, ◌∙◌, arith, le-leb, ◌*◌, ◌/◌, ◌%◌, Option, None}
use Rattle.std.proofs.{Common.{Some, ap, eq-eqb, ne_eqb, zero, suc, ◌≤◌, ◌++◌, codes, refl, inl, inr, ◌-◌, add-zero, add-suc}, lemmas.Bool.lt-leb}
use Rattle.pas_profile.specs.{Lives.{turn_of, is_live, live_word}, Blocks.length_of, Profiles.{IsValid, IsPage, IsDirectoryOf}, Directories.number_of}
use Rattle.pas_profile.specs.{Directories.directory_read, declared.{event.Event.Event, word.Word.Word, directory.Directory.Directory, profile.Profile.Profile}}
use Rattle.pas_profile.proofs.Codecs.{number_lt}
use Rattle.pas_machine.specs.{State.{deed_in, backed_in, live_in, gives_in, ends_in, Live, epoch_in}, Totals.{has_deed, has_block, page_at, address_at}}
use Rattle.pas_machine.specs.Totals.{sum_below}
use Rattle.pas_steps.specs.{States.{profile_of, word_in, IsUnusedAbove}, Effects.life_word_at, declared.state.State.State, Lists.{Whole, word_after, visible}}
use Rattle.pas_steps.specs.Lists.{Legal}
use Rattle.pas_report.specs.{Totals.{totals_of, totals_text}, Reports.{total_line, live_on, uncovered_on, page_text, machine_page, machine_pages, report_text}}
use Rattle.pas_report.specs.Counts.{pages_of, grains_in, life_of_grain, totals_counted, totals_by_words, IsDeedWord, AreDeedWords, live_counted_on}
use Rattle.pas_report.specs.Counts.{free_counted_on, offered_by, marked_in, line_by_words, page_by_words, pages_by_words, report_by_words, AreCounted}
use Rattle.pas_report.proofs.Counting.{sum_same, sum_and_count, grains_same}
use Rattle.pas_records.specs.{Marks.{offered_after, marks_after}, Covered.is_covered, Rests.{HasWords, AreFreeOrCovered, AreStamped}}
use Rattle.pas_records.proofs.MarksAtRest.{backed_agrees, deed_read_after}
use Rattle.pas_bits.{proofs.Rows.{count_same, count_suc}, specs.Bits.{has_bit, count_below}}
use Rattle.pas_core.{specs.Good.{word_of_deed, IsLifeOf, AgreesWithWords}, proofs.{Deeds.{deed_of, directory_is_of}, Lives.life_of, MachineRuns.agrees}}

-- what the life word of a grain says of the machine at its address: whether a block lives there, how many ended and how many were given
pub record IsLifeWord (word : ℕ) (lives : Bool) (gives ends : ℕ) : Type 0 where
  pub live : is_live word ≡ lives
  pub turn : turn_of word ≡ ends
  pub given : gives ≡ ends + (if lives then 1 else 0)

-- the words agree with the machine at each page and at each grain
pub record AreTotalled (state : State) (es : List Event) : Type 0 where
  pub deed : (i : ℕ) → i < pages_of state → not (word_in state (Word.Deed (page_at i)) == 0) ≡ has_deed (deed_in es (page_at i))
  pub backed : (i : ℕ) → i < pages_of state → (word_in state (Word.Backed (page_at i)) == 1) ≡ backed_in es (page_at i)
  pub life : (i : ℕ) → i < grains_in state
      → IsLifeWord (life_of_grain state i) (has_block (live_in es (address_at i))) (gives_in es (address_at i)) (ends_in es (address_at i))

-- ---- the totals
totals_agree : (state : State) (es : List Event) → AreTotalled state es → totals_counted state ≡ totals_of (profile_of state) es
totals_agree state es agree =
    let deeds : (totals_counted state).deeds ≡ (totals_of (profile_of state) es).deeds = count_same (pages_of state) _ _ agree.deed in
    let backed : (totals_counted state).backed ≡ (totals_of (profile_of state) es).backed = count_same (pages_of state) _ _ agree.backed in
    let live : (totals_counted state).live ≡ (totals_of (profile_of state) es).live = count_same (grains_in state) _ _ (λ i h. (agree.life i h).live) in
    let ended : (totals_counted state).ended ≡ (totals_of (profile_of state) es).ended = sum_same (grains_in state) _ _ (λ i h. (agree.life i h).turn) in
    let given : (totals_counted state).given ≡ (totals_of (profile_of state) es).given = (λ t. ended t + live t)
    ∙ sym (sum_and_count (grains_in state) (λ i. ends_in es (address_at i)) (λ i. has_block (live_in es (address_at i))))
    ∙ sym (sum_same (grains_in state) _ _ (λ i h. (agree.life i h).given)) in
    λ t. record { deeds = deeds t; backed = backed t; live = live t; given = given t; ended = ended t }

-- ---- the words of one page or grain
-- a word that isn't live is the number of blocks that ended
bare_life : (word gives ends : ℕ) → word ≡ ends → gives ≡ ends → ends < 2 ^ 40 → IsLifeWord word false gives ends
bare_life word gives ends w g few = record { live = lt-leb (2 ^ 63) word (omega arith); turn = omega arith; given = omega arith }

-- a live word has the number of blocks that ended before it
live_life : (word gives ends grains : ℕ) → word ≡ live_word ends grains → gives ≡ ends + 1 → ends < 2 ^ 40 → grains < 2 ^ 23
    → IsLifeWord word true gives ends
live_life word gives ends grains w g few short = record { live = le-leb (2 ^ 63) word (omega arith); turn = omega arith; given = omega arith }

-- ==== The words of a state after a legal list agree with the machine, so its totals are those of the list's visible events.

-- ---- one word
deed_agrees : (d : Option Directory) (word : ℕ) → word ≡ word_of_deed d → not (word == 0) ≡ has_deed d
deed_agrees None word e = ap (λ b. not b) (eq-eqb word 0 e)
deed_agrees (Some d) word e = ap (λ b. not b) (ne_eqb word 0 (λ z. omega arith))

-- The life word of a grain tells whether a block lives there, and the gives and ends.
life_agrees : (f : Profile) (g word : ℕ) (b : Option Live) (gives ends : ℕ) → IsLifeOf f g word b gives ends → IsLifeWord word (has_block b) gives ends
life_agrees f g word None gives ends h = bare_life word gives ends h.word_is h.gives_are h.few
life_agrees f g word (Some b) gives ends h = live_life word gives ends (length_of b.block) h.word_is h.gives_are h.few h.short

-- ---- the i-th grain is the grain 256 + i: its page and its place in it are the same numbers
life_after : (l : Whole) (i : ℕ) → word_after l (life_word_at (256 + i)) ≡ word_after l (Word.Life (page_at (i / 256)) (i % 256))
life_after l i = search arith

module _ (state : State) (l : Whole) (has : HasWords state l) (agree : AgreesWithWords (profile_of state) l) where
  life_totalled : (i : ℕ) → i < grains_in state
      → IsLifeWord (life_of_grain state i) (has_block (live_in (visible l) (address_at i))) (gives_in (visible l) (address_at i))
      (ends_in (visible l) (address_at i))
  life_totalled i h =
      let word : word_after l (life_word_at (256 + i)) ≡ life_of_grain state i = life_after l i ∙ sym (has.words (Word.Life (page_at (i / 256)) (i % 256)) (omega arith, omega arith, omega arith)) in
      let address : 16 * (256 + i) ≡ address_at i = omega arith in
      search (arith, life_agrees)

  are_totalled : AreTotalled state (visible l)
  are_totalled = search (arith, deed_agrees, backed_agrees, life_totalled)

  -- the line of the totals by the words is that of the machine
  pub line_agrees : totals_by_words state ≡ total_line (profile_of state) (visible l)
  line_agrees = ap totals_text (totals_agree state (visible l) are_totalled)

-- ==== The report by the words of a region at rest is that of the machine.

-- ---- deed words are read as the machine's deeds
deed_is_word : (f : Profile) (o : Option Directory) (word : ℕ) → word ≡ word_of_deed o → ((d : Directory) → o ≡ Some d → IsDirectoryOf f d) → IsDeedWord f word
deed_is_word f None word is of = inl is
deed_is_word f (Some d) word is of = inr (d, of d refl, is)

module _ (state : State) (l : Whole) (has : HasWords state l) (valid : IsValid (profile_of state)) (legal : Legal (profile_of state) l) where
  -- The words of a state after a legal list are deed words of its directories.
  pub are_deed_words : AreDeedWords state
  are_deed_words = λ page of.
      deed_is_word (profile_of state) (deed_in (visible l) page) (word_in state (Word.Deed page))
      (has.words (Word.Deed page) of ∙ deed_of (profile_of state) l legal page) (directory_is_of (profile_of state) l legal page)

  deed_read : (page : ℕ) → IsPage (profile_of state) page → directory_read (word_in state (Word.Deed page)) ≡ deed_in (visible l) page
  deed_read page of = ap directory_read (has.words (Word.Deed page) of) ∙ deed_read_after (profile_of state) l valid legal page

  -- ---- the marks
  -- the bit of a page in the vector of its machine's directory
  offered_same : (page : ℕ) → IsPage (profile_of state) page → (o : Option Directory) → ((d : Directory) → o ≡ Some d → IsDirectoryOf (profile_of state) d)
      → offered_by state page o ≡ offered_after l page o
  offered_same page of None own = refl
  offered_same page of (Some d) own =
      let at = own d refl in
      ap (λ w. has_bit w (page % 64)) (has.words (Word.Eligible (number_of d) (page / 64)) (number_lt d (profile_of state).heaps at.heap at.kind, omega arith))

  -- EACH PAGE HAS THE MARKS that the list left
  pub marks_are : (page : ℕ) → IsPage (profile_of state) page → marked_in state page ≡ marks_after l page
  marks_are page of =
      let machine = deed_in (visible l) page in
      let offered : offered_by state page (directory_read (word_in state (Word.Deed page))) ≡ offered_after l page (directory_read (word_after l (Word.Deed page))) =
      ap (offered_by state page) (deed_read page of) ∙ offered_same page of machine (directory_is_of (profile_of state) l legal page)
      ∙ ap (offered_after l page) (sym (deed_read_after (profile_of state) l valid legal page)) in
      let backed = has.words (Word.Backed page) of in
      let parked = has.words (Word.Parked (page / 64)) (omega arith) in
      let hinted = has.words (Word.Empty (page / 64)) (omega arith) in
      λ t. record { backed = backed t == 1; offered = offered t; parked = has_bit (parked t) (page % 64); hinted = has_bit (hinted t) (page % 64) }

  -- ---- the counts of a page
  live_at : (page b : ℕ) → IsPage (profile_of state) page → b < 256
      → is_live (word_in state (Word.Life page b)) ≡ has_block (live_in (visible l) (16 * (256 * page + b)))
  live_at page b of small =
      let g : (256 * page + b) / 256 ≡ page = omega arith in
      let low : (256 * page + b) % 256 ≡ b = omega arith in
      let word : word_in state (Word.Life page b) ≡ word_after l (life_word_at (256 * page + b)) = has.words (Word.Life page b) (of.0, of.1, small) ∙ (λ t. word_after l (Word.Life (sym g t) (sym low t))) in
      let life = life_agrees (profile_of state) (256 * page + b) (word_after l (life_word_at (256 * page + b))) (live_in (visible l) (16 * (256 * page + b)))
      (gives_in (visible l) (16 * (256 * page + b))) (ends_in (visible l) (16 * (256 * page + b)))
      (life_of (profile_of state) l valid legal (256 * page + b)) in
      ap is_live word ∙ life.live

  live_same : (page : ℕ) → IsPage (profile_of state) page → live_counted_on state page ≡ live_on (visible l) page
  live_same page of = grains_same _ _ (λ b small. live_at page b of small)

  module _ (free : AreFreeOrCovered (profile_of state) l) (stamps : AreStamped (profile_of state) l) where
    -- the word has the bit of the grain 256 * page + b
    free_at : (page b : ℕ) → IsPage (profile_of state) page → b < 256
        → has_bit (word_in state (Word.Free page (b / 64))) (b % 64) ≡ not (is_covered (visible l) (256 * page + b))
    free_at page b of small = search arith

    free_same : (page : ℕ) → IsPage (profile_of state) page → free_counted_on state page ≡ uncovered_on (visible l) page
    free_same page of = grains_same _ _ (λ b small. free_at page b of small)

    stamp_same : (page : ℕ) → IsPage (profile_of state) page → word_in state (Word.Stamp page) ≡ epoch_in (visible l) page
    stamp_same page of = has.words (Word.Stamp page) of ∙ stamps.stamp page of

    -- ---- the lines
    line_same : (page : ℕ) → IsPage (profile_of state) page → (o : Option Directory)
        → line_by_words state page o ≡ machine_page (visible l) page o (marks_after l page)
    line_same page of None = refl
    line_same page of (Some d) = λ t. page_text page d (live_same page of t) (free_same page of t) (stamp_same page of t) (marks_are page of t)

    page_same : (page : ℕ) → IsPage (profile_of state) page
        → page_by_words state page ≡ machine_page (visible l) page (deed_in (visible l) page) (marks_after l page)
    page_same page of = ap (line_by_words state page) (deed_read page of) ∙ line_same page of (deed_in (visible l) page)

    pages_same : (n : ℕ) → n ≤ pages_of state → pages_by_words state n ≡ machine_pages (visible l) (marks_after l) n
    pages_same zero within = refl
    pages_same (suc n) within = λ t. pages_same n (omega arith) t ++ page_same (suc n) (omega arith, omega arith) t

    -- THE REPORT by the words is the machine's
    pub report_agrees : report_by_words state ≡ report_text (profile_of state) (visible l) (marks_after l)
    report_agrees = λ t. codes "report\n" ++ (pages_same (pages_of state) (omega arith) t ++ line_agrees state l has (agrees (profile_of state) l valid legal) t)

-- ==== The blocks of a region are those of the pages that were used.

-- ---- nothing is counted among those that pass no test
count_rest : (m d : ℕ) (p : ℕ → Bool) → ((i : ℕ) → m ≤ i → i < m + d → p i ≡ false) → count_below (m + d) p ≡ count_below m p
count_rest m zero p none = ap (λ n. count_below n p) (add-zero m)
count_rest m (suc d) p none =
    ap (λ n. count_below n p) (add-suc m d) ∙ count_suc (m + d) p false (none (m + d) (omega arith) (omega arith))
    ∙ omega (arith, count_rest m d p (λ i from until. none i from (omega (arith, until))))

sum_rest : (m d : ℕ) (v : ℕ → ℕ) → ((i : ℕ) → m ≤ i → i < m + d → v i ≡ 0) → sum_below (m + d) v ≡ sum_below m v
sum_rest m zero v none = ap (λ n. sum_below n v) (add-zero m)
sum_rest m (suc d) v none = ap (λ n. sum_below n v) (add-suc m d)
    ∙ omega (arith, none (m + d) (omega arith) (omega arith), sum_rest m d v (λ i from until. none i from (omega (arith, until))))

-- ---- a grain of a page above those that were used
grain_unused : (state : State) (n i : ℕ) → IsUnusedAbove state n → 256 * n ≤ i → i < 256 * pages_of state → life_of_grain state i ≡ 0
grain_unused state n i unused from until = unused.lives (page_at (i / 256)) (i % 256) (omega (arith, from)) (omega (arith, until)) (omega arith)

-- The blocks of the pages up to the last used one are those of the region.
pub all_counted : (state : State) (n counted_pages live ended : ℕ) → IsUnusedAbove state n → n ≤ pages_of state → counted_pages ≡ n
    → AreCounted state (256 * counted_pages) live ended
    → AreCounted state (256 * pages_of state) live ended
all_counted state n counted_pages live ended unused most last counted =
    let m : ℕ = 256 * counted_pages in
    let d : ℕ = 256 * pages_of state - m in
    let all : m + d ≡ 256 * pages_of state = omega (arith, most, last) in
    let lives = count_rest m d (λ i. is_live (life_of_grain state i)) (λ i from until. ap is_live (grain_unused state n i unused (omega (arith, from, last)) (omega (arith, until, all)))) in
    let ends = sum_rest m d (λ i. turn_of (life_of_grain state i)) (λ i from until. ap turn_of (grain_unused state n i unused (omega (arith, from, last)) (omega (arith, until, all)))) in
    record {
      live_is = counted.live_is ∙ sym lives ∙ ap (λ k. count_below k (λ i. is_live (life_of_grain state i))) all;
      ended_is = counted.ended_is ∙ sym ends ∙ ap (λ k. sum_below k (λ i. turn_of (life_of_grain state i))) all;
      few = omega (arith, counted.few, most, last);
      small = omega (arith, counted.small, most, last);
    }
