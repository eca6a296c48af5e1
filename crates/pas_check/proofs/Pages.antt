-- Pages of the report with their marks, and its totals.
use Rattle.std.proofs.Common.{◌≡◌, ℕ, ◌+◌, ◌-◌, ◌==◌, Bool, true, false, if◌then◌else◌, List, [], ◌∷◌, ◌++◌, refl, ap, sym, ◌∙◌, arith, append_assoc}
use Rattle.std.proofs.Common.{append-nil, length, take, drop, drop-drop, eq-eqb, ne_eqb, MatchBool, ◌*◌, ◌/◌, ◌%◌, ◌≤◌, nat_le, nat_lt, not, Option, None, Some}
use Rattle.std.proofs.{Common.{subst, eqb-true, leb-true, ◌≢◌, zero, suc, ◌<◌, add-zero, add-suc}, Math.Seq.take-add, lemmas.{List.take_rest, Bool.cases_eq}}
use Rattle.std.{proofs.lemmas.{Bool.and_parts, Option.none-some}, specs.List.concat}
use Rattle.pas_check.specs.{Lines.{put_front, lines_in}, Takes.AreAllowedMarks, Begins.{page_due, pages_due}, Inputs.{is_mark, before_mark, after_mark}}
use Rattle.pas_check.specs.{Inputs.{trace_in, transcript_in}, Leading.{Fails, IsLed, IsWithin, lines_from, IsJustLine, Leads}, Shown.{IsHinted, IsPageLine}}
use Rattle.pas_check.specs.{Shown.{IsWith, MayShow, TellsPage, line_with, marks_for, given_on}, States.{Due, Shows, Stand, with_due, Totals}}
use Rattle.pas_check.{specs.declared.{cutting.Cursor.Cursor, reporting.Shown.Shown}, proofs.Leads.{due_refused, due_taken, just_led, leads_nowhere}}
use Rattle.pas_profile.specs.{Blocks.{address_of, length_of, grain_of}, declared.{directory.Directory.Directory, event.Event.Event, name.Block.Block}}
use Rattle.pas_profile.specs.declared.profile.Profile.{Profile}
use Rattle.pas_machine.specs.{Machine.{Run, MayGive}, Places.IsCovered, Laws.IsCounted, Totals.{address_at, has_block, sum_below}, State.{Live, live_in}}
use Rattle.pas_machine.{specs.State.{deed_in, ends_in, gives_in}, proofs.LiveBlocks.all_counted}
use Rattle.pas_records.{specs.{Marks.Marked, Covered.{covers, is_covered}}, proofs.MarksAtRest.{none_of, not_covering, some_of}}
use Rattle.pas_report.{specs.{Totals.totals_of, Reports.{machine_page, page_text, live_on, total_line}}, proofs.Counting.{grains_counted, sum_same}}
use Rattle.pas_report.proofs.Counting.{sum_and_count}
use Rattle.pas_bits.{specs.Bits.count_below, proofs.{Rows.{count_add, count_same, count_suc}, Runs.first_of_run}}

-- ---- What a cut of an input does to its trace and its transcript
-- ---- the lines of a text, one after the other, are the text
front_of : (b : ℕ) (lines : List (List ℕ)) → concat (put_front b lines) ≡ b ∷ concat lines
front_of b lines = search arith

-- A text's lines one after the other are the text.
pub all_lines : (text : List ℕ) → concat (lines_in text) ≡ text
all_lines [] = refl
all_lines (b ∷ bs) = let rest = all_lines bs in grind (arith, rest, cases_eq, eq-eqb, ne_eqb, front_of)

-- ---- the line from place p on, which is n bytes long
module _ (input : List ℕ) (p n : ℕ)
    (cut : lines_in (take (length input - p) (drop p input))
    ≡ take n (take (length input - p) (drop p input)) ∷ lines_in (drop n (take (length input - p) (drop p input))))
  where
    -- The line that was read.
    line : List ℕ
    line = take n (drop p input)

    -- What follows it.
    more : List ℕ
    more = drop (p + n) input

    lines_are : lines_in (drop p input) ≡ line ∷ lines_in more
    unfolding line more
    lines_are =
        ap lines_in (sym (take_rest input p)) ∙ cut
        ∙ (λ i. take n (take_rest input p i) ∷ lines_in (drop n (take_rest input p i)))
        ∙ ap (λ (bs : List ℕ). take n (drop p input) ∷ lines_in bs) (drop-drop n p input)

    mark_is : take (p + n - p) (drop p input) ≡ line
    unfolding line
    mark_is = ap (λ (m : ℕ). take m (drop p input)) (omega arith)

    -- A mark that was read is the line's.
    marked : is_mark (take (p + n - p) (drop p input)) ≡ true → is_mark line ≡ true
    marked is = ap is_mark (sym mark_is) ∙ is

    -- Where no mark was read the line is none.
    unmarked : is_mark (take (p + n - p) (drop p input)) ≡ false → is_mark line ≡ false
    unmarked is = ap is_mark (sym mark_is) ∙ is

    -- behind the mark the transcript begins
    pub past_mark : is_mark (take (p + n - p) (drop p input)) ≡ true → transcript_in (drop p input) ≡ take (length input - (p + n)) (drop (p + n) input)
    unfolding more
    past_mark is =
        ap (λ (ls : List (List ℕ)). concat (after_mark ls)) lines_are
        ∙ ap (λ (t : Bool). concat (if t then lines_in more else after_mark (lines_in more))) (marked is)
        ∙ all_lines more ∙ sym (take_rest input (p + n))

    -- another line belongs to the trace
    pub past_line : is_mark (take (p + n - p) (drop p input)) ≡ false → trace_in input ≡ take p input ++ trace_in (drop p input)
        → trace_in input ≡ take (p + n) input ++ trace_in (drop (p + n) input)
    unfolding line more
    past_line is so_far =
        so_far
        ∙ ap (λ (ls : List (List ℕ)). take p input ++ concat (before_mark ls)) lines_are
        ∙ ap (λ (t : Bool). take p input ++ concat (if t then [] else line ∷ before_mark (lines_in more))) (unmarked is)
        ∙ sym (append_assoc (take p input) line (trace_in more))
        ∙ ap (λ (bs : List ℕ). bs ++ trace_in more) (sym (take-add p n input))

    -- The transcript of an input is the same after a first line that isn't the mark.
    pub same_rest : is_mark (take (p + n - p) (drop p input)) ≡ false → transcript_in (drop p input) ≡ transcript_in (drop (p + n) input)
    unfolding more
    same_rest is =
        ap (λ (ls : List (List ℕ)). concat (after_mark ls)) lines_are
        ∙ ap (λ (t : Bool). concat (if t then lines_in more else after_mark (lines_in more))) (unmarked is)

-- ---- Pages of the report, and its totals
-- ---- What the machine says of a page, and its line in the report
-- ---- a live block begins at a grain
given_even : (t : Bool) (a k : ℕ) (block : Block) (old : Option Live) (b : Live) → (address_of block.name == a) ≡ t → address_of block.name % 16 ≡ 0
    → ((c : Live) → old ≡ Some c → a % 16 ≡ 0) → (if t then Some (record { actor = k; block = block }) else old) ≡ Some b → a % 16 ≡ 0
given_even t a k block old b same even before is = search (arith, eqb-true)

ended_even : (t : Bool) (a : ℕ) (old : Option Live) (b : Live) → ((c : Live) → old ≡ Some c → a % 16 ≡ 0) → (if t then None else old) ≡ Some b → a % 16 ≡ 0
ended_even t a old b before is = search (arith, none-some)

live_even : (f : Profile) (es : List Event) → Run f es → (a : ℕ) (b : Live) → live_in es a ≡ Some b → a % 16 ≡ 0
live_even f [] run a b is = absurd (none-some _ is)
live_even f (Event.Give k block ∷ es) run a b is = given_even (address_of block.name == a) a k block (live_in es a) b refl run.0.aligned (live_even f es run.1 a) is
live_even f (Event.End k name e ∷ es) run a b is = ended_even (address_of name == a) a (live_in es a) b (live_even f es run.1 a) is
live_even f (other ∷ es) run a b is = live_even f es run.1 a b is

-- ---- a grain is covered
pub covered_is : (f : Profile) (es : List Event) → Run f es → (g : ℕ) (t : Bool) → IsCovered es g t → t ≡ is_covered es g
covered_is f es run g true has =
    let even = live_even f es run has.address has.live has.lives in
    let e : 16 * (has.address / 16) ≡ has.address = omega (arith, even) in
    let parts = and_parts (nat_le (has.address / 16) g) (nat_lt g (has.address / 16 + length_of has.live.block)) has.has in
    let first : has.address / 16 ≤ g = leb-true (has.address / 16) g parts.0 in
    let here : covers (live_in es (16 * (has.address / 16))) (16 * (has.address / 16)) g ≡ true =
    (λ t. covers (live_in es (e t)) (e t) g) ∙ ap (λ (o : Option Live). covers o has.address g) has.lives ∙ has.has in
    sym (some_of (g + 1) (has.address / 16) (λ x. covers (live_in es (16 * x)) (16 * x) g) (omega (arith, first)) here)
covered_is f es run g false none = search (arith, none_of, not_covering)

-- ---- marks
marks_are_for : (shown : Shown) (m : Marked) → m.backed ≡ shown.backed → m.parked ≡ not m.offered → m ≡ marks_for shown m.offered m.hinted
marks_are_for shown m backed parked = λ t. record { backed = backed t; offered = m.offered; parked = parked t; hinted = m.hinted }

-- No test both passes and fails.
clash : {A : Type 0} (b : Bool) → b ≡ true → b ≡ false → A
clash b on off = absurd (cc)

module _ (shown : Shown) (line : List ℕ) (hinted : Bool) where
  -- Where a page must be offered, a line that isn't one with the offer is none of it with this hint.
  pub must_be_offered : shown.room ≡ true → (IsWith shown line true hinted → ⊥) → IsHinted shown line hinted → ⊥
  must_be_offered room other has = other (subst (λ (o : Bool). IsWith shown line o hinted) (has.1 room) has.2)

  -- Where a page need not be offered, the line without the offer decides once that with it failed.
  pub may_be_unoffered : shown.room ≡ false → (IsWith shown line true hinted → ⊥) → (is : Bool)
      → MatchBool is (IsWith shown line false hinted) (IsWith shown line false hinted → ⊥)
      → MatchBool is (IsHinted shown line hinted) (IsHinted shown line hinted → ⊥)
  may_be_unoffered room other true is = (false, λ on. clash shown.room on room, is)
  may_be_unoffered room other false none = λ has. by has.0 has.2
    where
      by : (offered : Bool) → IsWith shown line offered hinted → ⊥
      by true is = other is
      by false is = none is

module _ (shown : Shown) (line : List ℕ) where
  -- A line with an allowed offer, and with the hint where that must be, is one of the page.
  pub page_hinted : (hinted : Bool) → (shown.empty ≡ true → hinted ≡ true) → IsHinted shown line hinted → IsPageLine shown line
  page_hinted hinted empty is = (marks_for shown is.0 hinted, record { backed = refl; parked = refl; offered = is.1; hinted = empty }, is.2)

  hinted_page : (is : IsPageLine shown line) → IsHinted shown line is.0.hinted
  hinted_page is = (is.0.offered, is.1.offered, is.2 ∙ ap (λ (n : Marked). line_with shown n) (marks_are_for shown is.0 is.1.backed is.1.parked))

  -- Where a page must be hinted, a line that isn't one with the hint is none of it.
  pub page_none : shown.empty ≡ true → (IsHinted shown line true → ⊥) → IsPageLine shown line → ⊥
  page_none empty other is = other (subst (IsHinted shown line) (is.1.hinted empty) (hinted_page is))

  -- Where a page need not be hinted, the line without the hint decides once that with it failed.
  pub page_last : shown.empty ≡ false → (IsHinted shown line true → ⊥) → (is : Bool) → MatchBool is (IsHinted shown line false) (IsHinted shown line false → ⊥)
      → MatchBool is (IsPageLine shown line) (IsPageLine shown line → ⊥)
  page_last empty other true is = page_hinted false (λ on. clash shown.empty on empty) is
  page_last empty other false none = λ is. by is.0.hinted (hinted_page is)
    where
      by : (hinted : Bool) → IsHinted shown line hinted → ⊥
      by true has = other has
      by false has = none has

-- ---- the line of a page
module _ (s : Stand) (shown : Shown) (tells : TellsPage s.events shown) where
  -- the bits that are shown tell just what the marks ask for
  may_show : (m : Marked) → AreAllowedMarks s shown.page shown.directory m → MayShow shown m
  may_show m allowed = search arith

  -- .. and of what they do not show there is none
  are_allowed : (m : Marked) → MayShow shown m → AreAllowedMarks s shown.page shown.directory m
  are_allowed m may = search arith

  line_is : (m : Marked) → line_with shown m ≡ machine_page s.events shown.page (Some shown.directory) m
  line_is m = λ t. page_text shown.page shown.directory (tells.live t) (tells.free t) (tells.stamp t) m

  module _ (f : Profile) (text : List ℕ) (old new : Cursor) (more : List Due) (due : s.due ≡ Shows shown.page shown.directory ∷ more)
      (count : new.lines ≡ old.lines + 1) where
    page_taken : (line : List ℕ) → lines_from text old ≡ line ∷ lines_from text new → IsWithin text new → (is : Bool)
        → MatchBool is (IsPageLine shown line) (IsPageLine shown line → ⊥) → IsLed f text s old (with_due s more) new is
    page_taken line has within true is =
        due_taken f s (Shows shown.page shown.directory) more due refl text old (with_due s more) new line has count within
        (record { marks = is.0; allowed = are_allowed is.0 is.1; line_is = is.2 ∙ line_is is.0; next_is = refl }) (λ other x. x.next_is)
    page_taken line has within false none =
        subst (Fails f text s old) (sym count) (due_refused f s (Shows shown.page shown.directory) more due refl text old line (lines_from text new) has
        (λ next x. none (x.marks, may_show x.marks x.allowed, x.line_is ∙ sym (line_is x.marks))))

-- the same, whatever the page's number and directory are called
pub page_led : (f : Profile) (text : List ℕ) (s : Stand) (shown : Shown) (page : ℕ) (d : Directory) (old new : Cursor) (more : List Due) (line : List ℕ)
    (is : Bool)
    → TellsPage s.events shown
    → shown.page ≡ page → shown.directory ≡ d → s.due ≡ Shows page d ∷ more → new.lines ≡ old.lines + 1 → lines_from text old ≡ line ∷ lines_from text new
    → IsWithin text new
    → MatchBool is (IsPageLine shown line) (IsPageLine shown line → ⊥) → IsLed f text s old (with_due s more) new is
page_led f text s shown page d old new more line is tells page_is d_is due count has within shows =
    page_taken s shown tells f text old new more (due ∙ (λ t. Shows (sym page_is t) (sym d_is t) ∷ more)) count line has within is shows

-- ---- On a page without a deed no block was ever given; and the blocks of a region are those of its pages
-- ---- a block is given only where there is a deed
deed_under : (f : Profile) (es : List Event) (block : Block) → MayGive f es block → deed_in es (address_of block.name / 4096) ≢ None
deed_under f es block may none =
    let some : 0 < block.room = may.some in
    let whole : block.room % 16 ≡ 0 = may.whole in
    let bears = may.bears (grain_of block.name) (first_of_run (grain_of block.name) (length_of block) (omega (arith, some, whole))) in
    let here : address_of block.name / 4096 ≡ grain_of block.name / 256 = omega arith in
    none-some bears.directory (sym none ∙ ap (deed_in es) here ∙ bears.deed)

not_made : (t : Bool) (d : Directory) (old : Option Directory) → (if t then Some d else old) ≡ None → old ≡ None
not_made t d old none = search (arith, none-some)

no_gives : (f : Profile) (es : List Event) → Run f es → (a : ℕ) → deed_in es (a / 4096) ≡ None → gives_in es a ≡ 0
no_gives f [] run a none = refl
no_gives f (Event.Deed k p d ∷ es) run a none = no_gives f es run.1 a (not_made (p == a / 4096) d (deed_in es (a / 4096)) none)
no_gives f (Event.Give k block ∷ es) run a none = elsewhere (address_of block.name == a) refl (no_gives f es run.1 a none)
  where
    elsewhere : (t : Bool) → (address_of block.name == a) ≡ t → gives_in es a ≡ 0 → (if t then gives_in es a + 1 else gives_in es a) ≡ 0
    elsewhere true is before = absurd (deed_under f es block run.0 (ap (λ x. deed_in es (x / 4096)) (eqb-true (address_of block.name) a is) ∙ none))
    elsewhere false is before = before
no_gives f (e ∷ es) run a none = no_gives f es run.1 a none

no_block : (f : Profile) (es : List Event) → Run f es → (a : ℕ) → deed_in es (a / 4096) ≡ None → has_block (live_in es a) ≡ false
no_block f es run a none = counted (live_in es a) (all_counted f es run a)
  where
    counted : (o : Option Live) → IsCounted o (gives_in es a) (ends_in es a) → has_block o ≡ false
    counted None is = refl
    counted (Some b) is = let never = no_gives f es run a none in absurd (omega (arith, is.0, never))

-- ---- counts and sums
none_counted : (n : ℕ) (p : ℕ → Bool) → ((i : ℕ) → i < n → p i ≡ false) → count_below n p ≡ 0
none_counted zero p none = refl
none_counted (suc n) p none = let rest = none_counted n p (λ i low. none i (omega (arith, low))) in count_suc n p false (none n (omega arith)) ∙ omega (arith, rest)

none_summed : (n : ℕ) (v : ℕ → ℕ) → ((i : ℕ) → i < n → v i ≡ 0) → sum_below n v ≡ 0
none_summed zero v none = refl
none_summed (suc n) v none = let rest = none_summed n v (λ i low. none i (omega (arith, low))) in let last = none n (omega arith) in omega (arith, rest, last)

sum_add : (i j : ℕ) (v : ℕ → ℕ) → sum_below (i + j) v ≡ sum_below i v + sum_below j (λ b. v (i + b))
sum_add i zero v = ap (λ n. sum_below n v) (add-zero i) ∙ omega arith
sum_add i (suc j) v = ap (λ n. sum_below n v) (add-suc i j) ∙ omega (arith, sum_add i j v)

-- ---- the blocks of a page
pub given_counted : (n : ℕ) (es : List Event) (page : ℕ) → n ≡ 256 → sum_below n (λ b. gives_in es (16 * (256 * page + b))) ≡ given_on es page
unfolding given_on
given_counted n es page all = ap (λ m. sum_below m (λ b. gives_in es (16 * (256 * page + b)))) all

module _ (n : ℕ) (all : n ≡ 256) (es : List Event) where
  none_given_of : (f : Profile) → Run f es → (page : ℕ) → deed_in es page ≡ None → given_on es page ≡ 0
  none_given_of f run page none = sym (given_counted n es page all)
      ∙ none_summed n _ (λ b low. no_gives f es run (16 * (256 * page + b)) (ap (deed_in es) (omega (arith, low, all)) ∙ none))

  none_live_of : (f : Profile) → Run f es → (page : ℕ) → deed_in es page ≡ None → live_on es page ≡ 0
  none_live_of f run page none =
      sym (grains_counted n _ all) ∙ none_counted n _ (λ b low. no_block f es run (16 * (256 * page + b)) (ap (deed_in es) (omega (arith, low, all)) ∙ none))

  live_more_of : (k : ℕ)
      → count_below (256 * (k + 1)) (λ i. has_block (live_in es (address_at i)))
      ≡ count_below (256 * k) (λ i. has_block (live_in es (address_at i))) + live_on es (k + 1)
  live_more_of k =
      let p : ℕ → Bool = λ i. has_block (live_in es (address_at i)) in
      let e : 256 * (k + 1) ≡ 256 * k + n = omega (arith, all) in
      ap (λ m. count_below m p) e ∙ count_add (256 * k) n p
      ∙ ap (λ m. count_below (256 * k) p + m) (count_same n (λ b. p (256 * k + b)) (λ b. has_block (live_in es (16 * (256 * (k + 1) + b))))
      (λ b low. ap (λ a. has_block (live_in es a)) (omega arith))
      ∙ grains_counted n _ all)

  given_more_of : (k : ℕ)
      → sum_below (256 * (k + 1)) (λ i. gives_in es (address_at i)) ≡ sum_below (256 * k) (λ i. gives_in es (address_at i)) + given_on es (k + 1)
  given_more_of k =
      let v : ℕ → ℕ = λ i. gives_in es (address_at i) in
      let e : 256 * (k + 1) ≡ 256 * k + n = omega (arith, all) in
      ap (λ m. sum_below m v) e ∙ sum_add (256 * k) n v
      ∙ ap (λ m. sum_below (256 * k) v + m) (sum_same n (λ b. v (256 * k + b)) (λ b. gives_in es (16 * (256 * (k + 1) + b))) (λ b low. ap (gives_in es) (omega arith))
      ∙ given_counted n es (k + 1) all)

-- on a page without a deed there are none
pub none_given : (es : List Event) (f : Profile) → Run f es → (page : ℕ) → deed_in es page ≡ None → given_on es page ≡ 0
none_given es = none_given_of 256 refl es

-- On a page without a deed no block lives.
pub none_live : (es : List Event) (f : Profile) → Run f es → (page : ℕ) → deed_in es page ≡ None → live_on es page ≡ 0
none_live es = none_live_of 256 refl es

-- ---- the blocks of the region, one page more
pub live_more : (es : List Event) (k : ℕ)
    → count_below (256 * (k + 1)) (λ i. has_block (live_in es (address_at i)))
    ≡ count_below (256 * k) (λ i. has_block (live_in es (address_at i))) + live_on es (k + 1)
live_more es = live_more_of 256 refl es

-- The blocks that were given on the pages up to one are those on the pages before it and its own.
pub given_more : (es : List Event) (k : ℕ)
    → sum_below (256 * (k + 1)) (λ i. gives_in es (address_at i)) ≡ sum_below (256 * k) (λ i. gives_in es (address_at i)) + given_on es (k + 1)
given_more es = given_more_of 256 refl es

-- ---- The lines of the report, one after the other
-- ---- a page with a deed has a line, and one without has none
pub no_page_led : (f : Profile) (text : List ℕ) (s : Stand) (more : List Due) (page : ℕ) (at : Cursor) → IsWithin text at → None ≡ deed_in s.events page
    → s.due ≡ page_due page (deed_in s.events page) ++ more → Leads f text s at (with_due s more) at
no_page_led f text s more page at within none due = search (arith, leads_nowhere)

-- Where the next page has a deed, its line is due.
pub page_is_due : (s : Stand) (more : List Due) (page : ℕ) (d : Directory) → Some d ≡ deed_in s.events page
    → s.due ≡ page_due page (deed_in s.events page) ++ more → s.due ≡ Shows page d ∷ more
page_is_due s more page d some due = due ∙ ap (λ (o : Option Directory). page_due page o ++ more) (sym some)

-- ---- the pages that are left
abbrev pub pages_from : List Event → ℕ → ℕ → List Due
pages_from es k zero = []
pages_from es k (suc n) = page_due k (deed_in es k) ++ pages_from es (k + 1) n

pages_more : (es : List Event) (k n : ℕ) → pages_from es k (suc n) ≡ pages_from es k n ++ page_due (k + n) (deed_in es (k + n))
pages_more es k zero =
    let e : k + 0 ≡ k = omega arith in
    append-nil (page_due k (deed_in es k)) ∙ ap (λ (x : ℕ). page_due x (deed_in es x)) (sym e)
pages_more es k (suc n) =
    let e : k + 1 + n ≡ k + suc n = omega arith in
    ap (λ (ds : List Due). page_due k (deed_in es k) ++ ds) (pages_more es (k + 1) n ∙ ap (λ (x : ℕ). pages_from es (k + 1) n ++ page_due x (deed_in es x)) e)
    ∙ sym (append_assoc (page_due k (deed_in es k)) (pages_from es (k + 1) n) (page_due (k + suc n) (deed_in es (k + suc n))))

-- The lines due of pages in the report are those from page 1 on.
pub pages_are : (es : List Event) (n : ℕ) → pages_due es n ≡ pages_from es 1 n
pages_are es zero = refl
pages_are es (suc n) =
    let rest = pages_are es n in grind (arith, rest, pages_more)

-- What is due from a page on is that of the page and that from the next page on.
pub pages_next : (es : List Event) (k n m : ℕ) (more : List Due) (deed : Option Directory) → n ≡ m + 1 → deed_in es k ≡ deed
    → pages_from es k n ++ more ≡ page_due k deed ++ (pages_from es (k + 1) m ++ more)
pages_next es k n m more deed is at = search (arith, append_assoc)

-- Where no page is left, nothing is due of pages.
pub pages_last : (es : List Event) (k n : ℕ) (more : List Due) → n ≡ 0 → pages_from es k n ++ more ≡ more
pages_last es k n more is = search arith

-- ---- the totals
counted : (o : Option Live) (gives ends : ℕ) → IsCounted o gives ends → gives ≡ ends + (if has_block o then 1 else 0)
counted o gives ends is = search arith

-- As many blocks were given in all as ended and live.
pub given_is : (f : Profile) (es : List Event) → Run f es → (totals_of f es).given ≡ (totals_of f es).ended + (totals_of f es).live
given_is f es run = sum_same (256 * f.pages) _ _
    (λ i low. counted (live_in es (address_at i)) (gives_in es (address_at i)) (ends_in es (address_at i)) (all_counted f es run (address_at i)))
    ∙ sum_and_count (256 * f.pages) (λ i. ends_in es (address_at i)) (λ i. has_block (live_in es (address_at i)))

-- The report's last line is taken where it is just that of the machine's totals, or fails.
pub totals_led : (f : Profile) (text : List ℕ) (s : Stand) (more : List Due) (old new : Cursor) (wanted : List ℕ) (is : Bool)
    → wanted ≡ total_line f s.events → s.due ≡ Totals ∷ more → new.lines ≡ old.lines + 1
    → IsJustLine text old new wanted is → IsLed f text s old (with_due s more) new is
totals_led f text s more old new wanted is same due count just =
    just_led f s Totals more due refl text old (total_line f s.events) (λ line next. (λ x. x, λ x. x)) new count is
    (subst (λ (l : List ℕ). IsJustLine text old new l is) same just)
