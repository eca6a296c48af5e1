-- Looks at words in order: they give no right, and no word is looked at twice.
use Rattle.std.proofs.Common.{◌≡◌, ◌≢◌, ℕ, suc, length, ◌+◌, ◌*◌, ◌/◌, ◌<◌, ◌≤◌, Bool, false, List, [], ◌∷◌, ◌++◌, ◌⊎◌, inl, inr, refl, ap, sym, ◌∙◌, subst}
use Rattle.std.proofs.Common.{arith, ◌%◌, ◌^◌, ◌==◌, true, not, ◌&&◌, ◌||◌, if◌then◌else◌, append_assoc, max, min, bit_and, w64, eq-eqb, ne_eqb, eqb-true, ◌-◌}
use Rattle.std.proofs.Common.{slice_index, slice_set, replicate, true≢false, length-append, get_or-set_same, get_or-set_other, nat_lt, lt-ltb, le-ltb, ltb-true}
use Rattle.std.proofs.{Common.{ltb-false, pow_pos, shr-shr, bit_or}, lemmas.Bool.{cases_lt, cases_eq, and_parts, or_right, or_cases, not-true, not-false}}
use Rattle.std.proofs.lemmas.{Bool.{cases_Bool, false_from_ne_true}, List.{get_or-replicate, get_or_past}, Nat.Bits.{bit_at_ones, bit_at_above}}
use Rattle.std.{proofs.Math.{Bool.{or_comm, and-true}, ListN.{set, get_or}, Pow.pow-lt}, specs.Int.bit_not}
use Rattle.pas_profile.specs.{declared.{profile.Profile.Profile, word.Word.{Word as TheWord, Word}, directory.Directory.Directory}, Directories.deed_word_of}
use Rattle.pas_profile.{specs.{Directories.{IsKind, number_of, deed_word_numbered}, Profiles.IsPage}, proofs.Codecs.numbered}
use Rattle.pas_steps.specs.{Views.{View, has_right, right_after, known_deed, deed_after, KnowsDeed}, Past.{Once, Always}, Frames.{IsScan, OnlyScans}}
use Rattle.pas_steps.specs.{Desks.made, Kinds.{kind_of, is_in, Only}, Agreement.{Agreed, AgreesEligible}, Evidence.{ReadsDeed, DeedHere, IsSingle, ReadsParked}}
use Rattle.pas_steps.{specs.{Evidence.{ParkedHere, ReadsEligible, ZeroHere}, declared.step.{Step.{Step, TheVariants.Look}, Made.Made}}, proofs.Past.always_map}
use Rattle.pas_steps.proofs.{Past.{always_both, once_later, once_earlier}, Apart.only_both}
use Rattle.pas_scan.specs.{Rows.{looks_from, eligible_looks, WordReadHere, shows_page, IsLowestShown, ShowsNone}, Passed.NoneIs, Marks.{is_marked, IsHighest}}
use Rattle.pas_scan.specs.Scan.{IsFirstBare, IsMember, AllParked, InBlock, judging, IsFirstOffered, deed_looks}
use Rattle.pas_bits.{specs.{Bits.has_bit, PageVectors.is_in_word, Rows.{is_set, IsEmpty, IsLowestSet, IsWithin}}, proofs.Words.{bit_cleared, bit_of_or}}
use Rattle.pas_bits.proofs.{Words.{none_of_zero, is_zero, is_one}, Rows.none_past}

-- ---- these looks give no right
scan_right : (s : Step) (a p : ℕ) (had : Bool) → IsScan s → right_after s a p had ≡ had
scan_right s a p had step = grind arith

-- Scans leave each right where it was.
pub right_scans : (steps : List Made) (v : View) (p : ℕ) → OnlyScans steps → has_right (steps ++ v) p ≡ has_right v p
right_scans [] v p h = refl
right_scans (m ∷ more) v p h = scan_right m.step m.answer p (has_right (more ++ v) p) h.0 ∙ right_scans more v p h.1

-- The steps of a scan by themselves have no right.
pub scans_lack : (steps : List Made) (p : ℕ) → OnlyScans steps → has_right steps p ≡ false
scans_lack [] p h = refl
scans_lack (m ∷ more) p h = scan_right m.step m.answer p (has_right more p) h.0 ∙ scans_lack more p h.1

-- ---- no word is looked at twice: each step stands behind all earlier ones, in an order of the words
-- the deed words of a block of pages stand before its parked word, and behind all words of lower blocks
abbrev pub place_of : Step → ℕ
place_of (Look (Word.Eligible d j)) = j
place_of (Look (Word.Deed page)) = page + page / 64
place_of (Look (Word.Parked j)) = 65 * j + 64
place_of other = 0

abbrev pub Below : ℕ → List Made → Type 0
Below n = Always (λ m before. place_of m.step < n)

abbrev pub From : ℕ → List Made → Type 0
From n = Always (λ m before. n ≤ place_of m.step)

-- Words below a number are below each greater one.
pub below_more : (n k : ℕ) (steps : List Made) → n ≤ k → Below n steps → Below k steps
below_more n k steps le = always_map (λ m before. place_of m.step < n) (λ m before. place_of m.step < k) steps (λ m before lt. omega (arith, lt, le))

-- Two lists of looks at words below a number are so together.
pub below_append : (n : ℕ) (ys xs : List Made) → Below n ys → Below n xs → Below n (ys ++ xs)
below_append n ys xs = always_both (λ m before. place_of m.step < n) (λ m before. place_of m.step < n) ys xs (λ m before lt. lt)

not_below : (n : ℕ) (s : Step) (steps : List Made) → Below n steps → n ≤ place_of s → Once (λ m before. m.step ≡ s) steps → ⊥
not_below n s [] below le once = once
not_below n s (m ∷ steps) below le (inl e) = let same : place_of m.step ≡ place_of s = ap place_of e in absurd (omega (arith, below.0, le, same))
not_below n s (m ∷ steps) below le (inr once) = not_below n s steps below.1 le once

-- one step more
pub single_more : (n : ℕ) (m : Made) (steps : List Made) → Below n steps → n ≤ place_of m.step → IsSingle steps → IsSingle (m ∷ steps)
single_more n m steps below le single = (not_below n m.step steps below le, single)

-- A step that was made once was made in the later steps or in the earlier ones.
split : (s : Step) (ys xs : List Made) → Once (λ m before. m.step ≡ s) (ys ++ xs) → Once (λ m before. m.step ≡ s) ys ⊎ Once (λ m before. m.step ≡ s) xs
split s [] xs h = inr h
split s (y ∷ ys) xs (inl h) = inl (inl h)
split s (y ∷ ys) xs (inr h) = elim (split s ys xs h) [ inl here ↦ inl (inr here) | inr before ↦ inr before ]

-- the steps of a call more
pub single_append : (n : ℕ) (ys xs : List Made) → Below n xs → From n ys → IsSingle ys → IsSingle xs → IsSingle (ys ++ xs)
single_append n [] xs below later single before = before
single_append n (y ∷ ys) xs below later single before =
    (λ once. elim (split y.step ys xs once) [ inl here ↦ single.0 here | inr there ↦ not_below n y.step xs below later.0 there ], single_append n ys xs below later.1 single.1 before)

-- ---- looks at words from a place on
module _ (word : ℕ → TheWord) (from : ℕ) where
  -- one look more
  pub looks_more : (n a : ℕ) (steps : List Made) (answers : List ℕ) → from + length answers ≡ n → steps ≡ looks_from word from answers
      → made (Look (word n)) a ∷ steps ≡ looks_from word from (a ∷ answers)
  looks_more n a steps answers at order = ap (λ j. made (Look (word j)) a ∷ steps) (sym at) ∙ ap (λ s. made (Look (word (from + length answers))) a ∷ s) order

  -- There are as many looks as answers.
  counted : (answers : List ℕ) → length (looks_from word from answers) ≡ length answers
  counted [] = refl
  counted (a ∷ more) = ap (λ k. suc k) (counted more)

  -- There are as many looks at words in a row as answers.
  pub looks_count : (n : ℕ) (steps : List Made) (answers : List ℕ) → steps ≡ looks_from word from answers → length answers ≡ n → length steps ≡ n
  looks_count n steps answers order is = ap length order ∙ counted answers ∙ is

  -- Looks at words that a scan may look at are a scan.
  scans : ((j : ℕ) → IsScan (Look (word j))) → (answers : List ℕ) → OnlyScans (looks_from word from answers)
  scans are [] = tt
  scans are (a ∷ more) = (are (from + length more), scans are more)

  -- Looks at words that are scans are scans.
  pub looks_scan : ((j : ℕ) → IsScan (Look (word j))) → (steps : List Made) (answers : List ℕ) → steps ≡ looks_from word from answers → OnlyScans steps
  looks_scan are steps answers order = subst OnlyScans (sym order) (scans are answers)

  later_word : ((i j : ℕ) → Look (word i) ≡ Look (word j) → i ≡ j) → (n : ℕ) (answers : List ℕ) → from + length answers ≤ n
      → Once (λ m before. m.step ≡ Look (word n)) (looks_from word from answers) → ⊥
  later_word other n [] le once = once
  later_word other n (a ∷ more) le (inl e) = let same = other (from + length more) n e in absurd (omega (arith, same, le))
  later_word other n (a ∷ more) le (inr once) = later_word other n more (omega (arith, le)) once

  -- Looks at distinct words look at no word twice.
  singles : ((i j : ℕ) → Look (word i) ≡ Look (word j) → i ≡ j) → (answers : List ℕ) → IsSingle (looks_from word from answers)
  singles other [] = tt
  singles other (a ∷ more) = (later_word other (from + length more) more (omega arith), singles other more)

  -- where each place has a word of its own
  pub looks_single : ((i j : ℕ) → Look (word i) ≡ Look (word j) → i ≡ j) → (steps : List Made) (answers : List ℕ) → steps ≡ looks_from word from answers
      → IsSingle steps
  looks_single other steps answers order = subst IsSingle (sym order) (singles other answers)

-- ---- deeds
pub deed_more : (from page : ℕ) (steps : List Made) (a : ℕ) → ((p : ℕ) → from ≤ p → p < page → Once (DeedHere p) steps) → a ≢ 0 → (p : ℕ) → from ≤ p
    → p < page + 1 → Once (DeedHere p) (made (Look (Word.Deed page)) a ∷ steps)
deed_more from page steps a before ne p low high = elim (cases_lt p page) [
  | inl lt ↦ inr (before p low lt)
  | inr ge ↦ let same : page ≡ p = omega (arith, high, ge) in inl (subst (λ q. ReadsDeed p (Look (Word.Deed q))) (sym same) ReadsDeed.Looks, ne)
]

-- Deed words none of which reads as 0 are deeds.
pub deeds_read : (from : ℕ) (answers : List ℕ) → NoneIs 0 answers → (p : ℕ) → from ≤ p → p < from + length answers → Once (DeedHere p) (deed_looks from answers)
deeds_read from [] none p low high = absurd (omega (arith, low, high))
deeds_read from (a ∷ more) none p low high =
    deed_more from (from + length more) (deed_looks from more) a (deeds_read from more none.1) none.0 p low (omega (arith, high))

-- A deed word that reads as 0 after those of lower pages that don't is the first bare one.
pub first_none : (f : Profile) (from page a : ℕ) (steps : List Made) → 1 ≤ from → from ≤ page → page ≤ f.pages → a ≡ 0
    → ((p : ℕ) → from ≤ p → p < page → Once (DeedHere p) steps) → IsFirstBare f from (made (Look (Word.Deed page)) a ∷ steps) page
first_none f from page a steps some low high z before = record {
  from_there = low;
  of_region = (omega (arith, some, low), high);
  none = inl (ReadsDeed.Looks, z);
  lower = λ p ge lt. inr (before p ge lt);
}

-- ==== The members of a block of pages, and their parked bits.

-- ---- looks at the deed words of a block
pub block_scans : (block : ℕ) (steps : List Made) → InBlock block steps → OnlyScans steps
block_scans block steps = always_map (λ m before. (page : ℕ) × (m.step ≡ Look (Word.Deed page)) × (page / 64 ≡ block)) (λ m before. IsScan m.step) steps (λ m before h. subst IsScan (sym h.1) (IsScan.LooksDeed h.0))

block_from : (block : ℕ) (steps : List Made) → InBlock block steps → From (65 * block) steps
block_from block steps = search (arith, always_map)

block_below : (block : ℕ) (steps : List Made) → InBlock block steps → Below (65 * block + 64) steps
block_below block steps = search (arith, always_map)

other_page : (q p block a known : ℕ) → q / 64 ≡ block → p / 64 ≢ block → (if q == p then a else known) ≡ known
other_page q p block a known at ne = ap (λ t. if t then a else known) (ne_eqb q p (λ e. ne (ap (λ x. x / 64) (sym e) ∙ at)))

-- they tell nothing of other blocks
other_block : (block : ℕ) (steps : List Made) (v : View) (p : ℕ) → InBlock block steps → p / 64 ≢ block → known_deed (steps ++ v) p ≡ known_deed v p
other_block block [] v p h ne = refl
other_block block (m ∷ more) v p h ne =
    ap (λ s. deed_after s m.answer p (known_deed (more ++ v) p)) h.0.1 ∙ other_page h.0.0 p block _ _ h.0.2 ne ∙ other_block block more v p h.1 ne

-- ---- the members so far, of pages from `first` to below `end`
pub record Members (f : Profile) (marks : List ℕ) (d : Directory) (block first end members : ℕ) (steps : List Made) : Type 0 where
  pub all : (v : View) (p : ℕ) → p / 64 ≡ block → first ≤ p → p < end → KnowsDeed p d (steps ++ v) → is_marked marks p ≡ false → has_bit members (p % 64) ≡ true
  pub only : (v : View) (p : ℕ) → p / 64 ≡ block → has_bit members (p % 64) ≡ true
      → (first ≤ p) × (p < end) × KnowsDeed p d (steps ++ v) × (is_marked marks p ≡ false)

read_here : (page a known : ℕ) → (if page == page then a else known) ≡ a
read_here page a known = ap (λ t. if t then a else known) (eq-eqb page page refl)

-- one deed word more
pub members_more : (f : Profile) (marks : List ℕ) (d : Directory) (block first page members more a : ℕ) (steps : List Made)
    → Members f marks d block first page members steps → page / 64 ≡ block → first ≤ page
    → ((p : ℕ) → p / 64 ≡ block → is_in_word more p ≡ ((((a == deed_word_of d) && not (is_marked marks page)) && (page == p)) || is_in_word members p))
    → Members f marks d block first (page + 1) more (made (Look (Word.Deed page)) a ∷ steps)
members_more f marks d block first page members more a steps before at low bits =
    let open_here : Bool = (a == deed_word_of d) && not (is_marked marks page) in
    record {
      all = search (arith, cases_eq, read_here, eq-eqb, ne_eqb, or_right);
      only = λ v p e bit. elim (or_cases (open_here && (page == p)) (has_bit members (p % 64)) (sym (bits p e) ∙ bit)) [
        | inl both ↦ search (arith, and_parts, eqb-true, read_here, not-true)
        | inr there ↦
            let old = before.only v p e there in let lt = old.1 in
            (old.0, omega (arith, lt), ap (λ t. if t then a else known_deed (steps ++ v) p) (ne_eqb page p (λ h. absurd (omega (arith, h, lt)))) ∙ old.2, old.3)
      ];
    }

-- ---- pages of a block that are passed by, none of which is of the directory
module _ (block first : ℕ) where
  abbrev pub AreOf : List ℕ → Type 0
  AreOf answers = (p : ℕ) → first ≤ p → p < first + length answers → p / 64 ≡ block

  -- Looks at their deed words are in the block ..
  pub passed_in : (answers : List ℕ) → AreOf answers → InBlock block (deed_looks first answers)
  passed_in [] at = tt
  passed_in (a ∷ more) at =
      ((first + length more, refl, at (first + length more) (omega arith) (omega arith)), passed_in more (λ p low high. at p low (omega (arith, high))))

  -- .. and below the next page's.
  pub passed_below : (answers : List ℕ) → Below (first + length answers + (first + length answers) / 64) (deed_looks first answers)
  passed_below [] = tt
  passed_below (a ∷ more) = (omega arith, below_more _ _ (deed_looks first more) (omega arith) (passed_below more))

  -- None of the pages is a member.
  pub passed_members : (f : Profile) (marks : List ℕ) (d : Directory) (answers : List ℕ) → NoneIs (deed_word_of d) answers → AreOf answers
      → Members f marks d block first (first + length answers) 0 (deed_looks first answers)
  passed_members f marks d [] none at = search (arith, true≢false, none_of_zero)
  passed_members f marks d (a ∷ more) none at =
      let page : ℕ = first + length more in
      let next : page + 1 ≡ first + length (a ∷ more) = omega arith in
      subst (λ n. Members f marks d block first n 0 (deed_looks first (a ∷ more))) next
      (members_more f marks d block first page 0 0 a (deed_looks first more) (passed_members f marks d more none.1 (λ p low high. at p low (omega (arith, high))))
      (at page (omega arith) (omega arith)) (omega arith)
      (λ p e. ap (λ t. ((t && not (is_marked marks page)) && (page == p)) || is_in_word 0 p) (sym (ne_eqb a (deed_word_of d) none.0))))

-- ---- a parked word more
member_cut : (f : Profile) (marks : List ℕ) (d : Directory) (j a p : ℕ) (ms steps : List Made) (v : View)
    → IsMember f marks d (made (Look (Word.Parked j)) a ∷ (ms ++ steps) ++ v) p → IsMember f marks d (ms ++ (steps ++ v)) p
member_cut f marks d j a p ms steps v is = search (arith, append_assoc)

-- A member of the directory is one after the look at the parked word, too.
pub member_joined : (f : Profile) (marks : List ℕ) (d : Directory) (j a p : ℕ) (ms steps : List Made) (v : View) → IsMember f marks d (ms ++ (steps ++ v)) p
    → IsMember f marks d (made (Look (Word.Parked j)) a ∷ (ms ++ steps) ++ v) p
member_joined f marks d j a p ms steps v is = search (arith, append_assoc)

-- A block of pages whose members are all read as parked makes all pages up to its end accounted for.
pub parked_more : (f : Profile) (marks : List ℕ) (d : Directory) (block end members a : ℕ) (ms steps : List Made) → a < 2 ^ 64 → OnlyScans (ms ++ steps)
    → InBlock block ms → AllParked f marks d (64 * block) steps
    → ((v : View) (p : ℕ) → p / 64 ≡ block → IsMember f marks d (ms ++ v) p → has_bit members (p % 64) ≡ true)
    → ((p : ℕ) → 1 ≤ p → p / 64 ≡ block → p < end → has_bit (bit_and members (bit_not w64 a)) (p % 64) ≡ false) → end ≤ 64 * (block + 1)
    → AllParked f marks d end (made (Look (Word.Parked block)) a ∷ (ms ++ steps))
parked_more f marks d block end members a ms steps small scans deeds before all none limit v p lt is = elim (cases_lt p (64 * block)) [
  | inl low ↦
      let cut = member_cut f marks d block a p ms steps v is in
      let old : IsMember f marks d (steps ++ v) p = record { of_region = cut.of_region; of_directory = sym (other_block block ms (steps ++ v) p deeds (λ e. absurd (omega (arith, e, low)))) ∙ cut.of_directory; unmarked = cut.unmarked } in
      inr (once_later (ParkedHere true p) ms steps (before v p low old))
  | inr high ↦
      let at : p / 64 ≡ block = omega (arith, lt, high, limit) in
      let bit = all (steps ++ v) p at (member_cut f marks d block a p ms steps v is) in
      let some = is.of_region.0 in
      inl (
        ReadsParked.Looks block (sym at),
        not-false (has_bit a (p % 64)) (cc (bit_cleared members a (p % 64) small (omega arith), none p some at lt)),
        scans_lack (ms ++ steps) p scans,
      )
]

-- a member whose parked bit was read as 0
pub held_bits : (members a page : ℕ) → a < 2 ^ 64 → has_bit (bit_and members (bit_not w64 a)) (page % 64) ≡ true
    → (has_bit members (page % 64) ≡ true) × (has_bit a (page % 64) ≡ false)
held_bits members a page small h = search (arith, and_parts, bit_cleared, not-true)

-- A member whose parked bit was read as 0 is held by some actor.
pub held_here : (page block a : ℕ) (steps : List Made) → OnlyScans steps → page / 64 ≡ block → has_bit a (page % 64) ≡ false
    → Once (ParkedHere false page) (made (Look (Word.Parked block)) a ∷ steps)
held_here page block a steps scans at bit = inl (ReadsParked.Looks block (sym at), bit, scans_lack steps page scans)

-- Two lists of scans are scans together.
pub scans_append : (ys xs : List Made) → OnlyScans ys → OnlyScans xs → OnlyScans (ys ++ xs)
scans_append ys xs a b = always_both (λ m before. IsScan m.step) (λ m before. IsScan m.step) ys xs (λ m before h. h) a b

-- ---- the steps of one turn: the deed words of a block, then its parked word
pub turn_scans : (block a : ℕ) (ms steps : List Made) → InBlock block ms → OnlyScans steps → OnlyScans (made (Look (Word.Parked block)) a ∷ (ms ++ steps))
turn_scans block a ms steps deeds scans = (IsScan.LooksParked block, scans_append ms steps (block_scans block ms deeds) scans)

turn_before : (block : ℕ) (ms steps : List Made) → InBlock block ms → Below (65 * block) steps → Below (65 * block + 64) (ms ++ steps)
turn_before block ms steps deeds below = below_append _ ms steps (block_below block ms deeds) (below_more _ _ steps (omega arith) below)

-- One turn of the verdict reads words below those of the next block.
pub turn_below : (block a : ℕ) (ms steps : List Made) → InBlock block ms → Below (65 * block) steps
    → Below (65 * (block + 1)) (made (Look (Word.Parked block)) a ∷ (ms ++ steps))
turn_below block a ms steps deeds below = (omega arith, below_more _ _ _ (omega arith) (turn_before block ms steps deeds below))

-- One turn of the verdict reads each word once.
pub turn_single : (block a : ℕ) (ms steps : List Made) → InBlock block ms → Below (65 * block) steps → IsSingle ms → IsSingle steps
    → IsSingle (made (Look (Word.Parked block)) a ∷ (ms ++ steps))
turn_single block a ms steps deeds below single before =
    search (arith, single_more, turn_before, single_append, block_from)

-- One turn of the verdict is of the judging kinds alone.
pub turn_kinds : (block a : ℕ) (ms steps : List Made) → InBlock block ms → Only judging steps → Only judging (made (Look (Word.Parked block)) a ∷ (ms ++ steps))
turn_kinds block a ms steps deeds before = (
  refl,
  only_both judging ms steps (always_map (λ m before. (page : ℕ) × (m.step ≡ Look (Word.Deed page)) × (page / 64 ≡ block))
      (λ m before. is_in judging (kind_of m.step) ≡ true) ms (λ m before h. ap (λ s. is_in judging (kind_of s)) h.1) deeds) before,
)

-- ---- the pages of a block
pub record IsSpan (block pages first end : ℕ) : Type 0 where
  pub first_is : first ≡ max (block * 64) 1
  pub end_is : end ≡ min (block * 64 + 64) (pages + 1)

-- A page of the span of a block is in that block.
pub span_block : (block pages first end page : ℕ) → IsSpan block pages first end → first ≤ page → page < end → page / 64 ≡ block
span_block block pages first end page span low high = omega (arith, span.first_is, span.end_is, low, high)

-- A page of a block of the region isn't below its span.
pub span_first : (block pages first end p : ℕ) → IsSpan block pages first end → p / 64 ≡ block → 1 ≤ p → first ≤ p
span_first block pages first end p span at some = omega (arith, span.first_is, at, some)

-- The span of a block of the region begins at most where it ends.
pub span_some : (block pages first end : ℕ) → IsSpan block pages first end → block ≤ pages / 64 → 1 ≤ pages → first ≤ end
span_some block pages first end span le some = omega (arith, span.first_is, span.end_is, le, some)

-- A page of a block of the region is below the end of its span.
pub span_end : (block pages first end p : ℕ) → IsSpan block pages first end → p / 64 ≡ block → p ≤ pages → p < end
span_end block pages first end p span at le = omega (arith, span.end_is, at, le)

-- A page of the span of a block is one of the region.
pub span_page : (f : Profile) (block first end p : ℕ) → IsSpan block f.pages first end → first ≤ p → p < end → IsPage f p
span_page f block first end p span low high = (omega (arith, span.first_is, low), omega (arith, span.end_is, high))

-- ==== Rows of words of pages.

-- ==== The set of marked pages.

-- the word of the page got the page's bit
pub marked_more : (words : List ℕ) (page n p : ℕ) → page / 64 < length words
    → (p / 64 ≡ page / 64 → is_in_word n p ≡ ((page == p) || is_in_word (get_or words (page / 64) 0) p))
    → is_marked (set words (page / 64) n) p ≡ ((page == p) || is_marked words p)
marked_more words page n p within added = search (arith, cases_eq, get_or-set_same, get_or-set_other, ne_eqb)

-- the word of a block got these bits
pub marked_bits : (words : List ℕ) (block bits p : ℕ) → block < length words
    → is_marked (set words block (bit_or (get_or words block 0) bits)) p ≡ (((p / 64 == block) && has_bit bits (p % 64)) || is_marked words p)
marked_bits words block bits p within = search (arith, cases_eq, get_or-set_same, get_or-set_other, ne_eqb, eq-eqb, bit_of_or, or_comm)

higher_none : (n from c : ℕ) → n / 2 ^ from ≡ 0 → from ≤ c → has_bit n c ≡ false
higher_none n from c none le =
    let whole : c ≡ from + (c - from) = omega (arith, le) in
    cc (shr-shr n from (c - from), none_of_zero (c - from))

-- What is left of a word from its highest bit on is that bit.
pub highest_at : (n low : ℕ) → n / 2 ^ low ≢ 0 → n / 2 ^ (low + 1) ≡ 0 → low < 64 → IsHighest n low
highest_at n low some none lt =
    let half : n / 2 ^ low / 2 ≡ 0 = shr-shr n low 1 ∙ none in
    record { within = lt; set = is_one n low (omega (arith, some, half)); highest = λ c less. higher_none n (low + 1) c none (omega (arith, less)) }

zeros : (i : ℕ) → ◌≡◌ {A = ℕ} (get_or (replicate 257 0) i 0) 0
zeros i = elim (cases_lt i 257) [
  | inl lt ↦ get_or-replicate 257 i 0 0 lt
  | inr ge ↦ get_or_past (replicate 257 0) i 0 ge
]

-- In a row of zeros no page is marked.
pub marked_none : (p : ℕ) → is_marked (replicate 257 0) p ≡ false
marked_none p = ap (λ n. has_bit n (p % 64)) (zeros (p / 64)) ∙ none_of_zero (p % 64)

-- ==== Rows of eligible words: their looks in order, what each shows, and the lowest page that they show.

-- ---- looks in order
eligible_append : (number from : ℕ) (later earlier : List ℕ)
    → eligible_looks number (from + length earlier) later ++ eligible_looks number from earlier ≡ eligible_looks number from (later ++ earlier)
eligible_append number from [] earlier = refl
eligible_append number from (a ∷ more) earlier =
    let at : from + length earlier + length more ≡ from + length (more ++ earlier) = omega (arith, length-append more earlier) in
    ap (λ j. made (Look (Word.Eligible number j)) a ∷ (eligible_looks number (from + length earlier) more ++ eligible_looks number from earlier)) at
    ∙ ap (λ s. made (Look (Word.Eligible number (from + length (more ++ earlier)))) a ∷ s) (eligible_append number from more earlier)

-- a row after the rows before it
pub row_after : (number from block : ℕ) (ys xs : List Made) (later earlier : List ℕ) → from + length earlier ≡ block → ys ≡ eligible_looks number block later
    → xs ≡ eligible_looks number from earlier → ys ++ xs ≡ eligible_looks number from (later ++ earlier)
row_after number from block ys xs later earlier at order_y order_x =
    search (arith, eligible_append)

-- There are as many looks at eligible words as answers.
pub count_of : (number from n : ℕ) (steps : List Made) (answers : List ℕ) → steps ≡ eligible_looks number from answers → length answers ≡ n → length steps ≡ n
count_of number from n steps answers order is = looks_count (λ j. Word.Eligible number j) from n steps answers order is

-- Looks at eligible words are scans.
pub scans_of : (number from : ℕ) (answers : List ℕ) (steps : List Made) → steps ≡ eligible_looks number from answers → OnlyScans steps
scans_of number from answers steps order = looks_scan (λ j. Word.Eligible number j) from (λ j. IsScan.LooksEligible number j) steps answers order

-- Looks at eligible words read each word once.
pub single_of : (number from : ℕ) (answers : List ℕ) (steps : List Made) → steps ≡ eligible_looks number from answers → IsSingle steps
single_of number from answers steps order = looks_single (λ j. Word.Eligible number j) from (λ i j e. cc) steps answers order

-- ---- one word more of a row
pub zero_row : (word : ℕ) → slice_index (replicate 8 0) word ≡ 0
zero_row word = elim (cases_lt word 8) [ inl lt ↦ get_or-replicate 8 word 0 0 lt | inr ge ↦ get_or_past (replicate 8 0) word 0 ge ]

-- A word that was read, and noted in its row, is one more of those that the row has.
pub words_more : (number block word a : ℕ) (row : List ℕ) (steps : List Made) → block ≤ word → word < block + length row
    → ((b : ℕ) → block ≤ b → b < word → Once (WordReadHere number b (slice_index row (b - block))) steps)
    → (b : ℕ) → block ≤ b → b < word + 1
    → Once (WordReadHere number b (slice_index (slice_set row (word - block) a) (b - block))) (made (Look (Word.Eligible number word)) a ∷ steps)
words_more number block word a row steps from room before b low high = search (arith, cases_lt, get_or-set_other, get_or-set_same)

-- The words of a row that aren't read yet are still 0.
pub rest_more : (block word a : ℕ) (row : List ℕ) → block ≤ word → ((b : ℕ) → word ≤ b → slice_index row (b - block) ≡ 0) → (b : ℕ) → word + 1 ≤ b
    → slice_index (slice_set row (word - block) a) (b - block) ≡ 0
rest_more block word a row from rest b low = get_or-set_other row _ _ a 0 (λ e. absurd (omega (arith, e, low, from))) ∙ rest b (omega (arith, low))

-- ---- what a reading of a word shows of its pages
-- A page whose word was read is shown as its bit says.
pub shown_as : (bit : Bool) (d : Directory) (p a : ℕ) (steps : List Made) → OnlyScans steps → Once (WordReadHere (number_of d) (p / 64) a) steps
    → has_bit a (p % 64) ≡ bit
    → Once (λ m before. ReadsEligible d p m.step × (has_bit m.answer (p % 64) ≡ bit) × (has_right before p ≡ false)) steps
shown_as bit d p a [] scans h is = absurd h
shown_as bit d p a (m ∷ before) scans (inl h) is = inl (
  subst (λ s. ReadsEligible d p s) (sym h.0) (ReadsEligible.Looks (number_of d) (p / 64) refl refl),
  ap (λ n. has_bit n (p % 64)) h.1 ∙ is,
  scans_lack before p scans.1,
)
shown_as bit d p a (m ∷ before) scans (inr h) is = inr (shown_as bit d p a before scans.1 h is)

-- the answer agrees with the view before it
word_agrees : (f : Profile) (v : View) (number block a : ℕ) (steps : List Made) → OnlyScans steps → Agreed f v steps → Once (WordReadHere number block a) steps
    → (before : List Made) × OnlyScans before × AgreesEligible f (before ++ v) number block a
word_agrees f v number block a [] scans agreed h = absurd h
word_agrees f v number block a (m ∷ before) scans agreed (inl h) = search arith
word_agrees f v number block a (m ∷ before) scans agreed (inr h) = word_agrees f v number block a before scans.1 agreed.1 h

-- so a page that it shows is one of the region, of which the actor has no right
one_page : (f : Profile) (v : View) (number page a : ℕ) (steps : List Made) → OnlyScans steps → Agreed f v steps
    → Once (WordReadHere number (page / 64) a) steps → has_bit a (page % 64) ≡ true → IsPage f page × (has_right v page ≡ false)
one_page f v number page a steps scans agreed h bit =
    search (arith, word_agrees, false_from_ne_true, true≢false, right_scans)

-- a deed that is known stays so over a look at a word of its directory
stays_so : (t : Bool) (deed known : ℕ) → known ≡ deed → (if t then deed else known) ≡ deed
stays_so t deed known h = grind arith

one_deed : (number page a from : ℕ) (answers : List ℕ) (v : View) → Once (WordReadHere number (page / 64) a) (eligible_looks number from answers)
    → has_bit a (page % 64) ≡ true → known_deed (eligible_looks number from answers ++ v) page ≡ deed_word_numbered number
one_deed number page a from [] v h bit = absurd h
one_deed number page a from (b ∷ more) v (inl h) bit = cc (eq-eqb (page / 64) (page / 64) refl)
one_deed number page a from (b ∷ more) v (inr h) bit = stays_so _ _ _ (one_deed number page a from more v h bit)

-- ---- the pages of a row
-- A page's bit in its row lies where division says.
shown_bit : (row : List ℕ) (block p : ℕ) → 64 * block ≤ p → shows_page row block p ≡ has_bit (slice_index row (p / 64 - block)) (p % 64)
shown_bit row block p low = search arith

-- a page that a row shows has its word in it
pub shown_within : (row : List ℕ) (block end p : ℕ) → ((b : ℕ) → end ≤ b → slice_index row (b - block) ≡ 0) → 64 * block ≤ p → shows_page row block p ≡ true
    → p < 64 * end
shown_within row block end p rest low shown = search (arith, cases_lt, true≢false, shown_bit, none_of_zero)

-- A row that shows no page from the next one on read each as not offered.
pub row_zeros : (d : Directory) (next block end stop : ℕ) (row : List ℕ) (steps : List Made) → OnlyScans steps
    → ((p : ℕ) → next ≤ p → p < 64 * block → Once (ZeroHere d p) steps)
    → ((b : ℕ) → block ≤ b → b < end → Once (WordReadHere (number_of d) b (slice_index row (b - block))) steps)
    → ((p : ℕ) → next ≤ p → 64 * block ≤ p → p < stop → shows_page row block p ≡ false) → stop ≤ 64 * end
    → (p : ℕ) → next ≤ p → p < stop → Once (ZeroHere d p) steps
row_zeros d next block end stop row steps scans before words none limit p low high = elim (cases_lt p _) [
  | inl lt ↦ before p low lt
  | inr ge ↦ shown_as false d p _ steps scans (words (p / 64) (omega (arith, ge)) (omega (arith, high, limit))) (sym (shown_bit row block p ge) ∙ none p low ge high)
]

-- the first page that looks show as offered, where each lower one from the next one on was read as not offered
pub first_one : (f : Profile) (d : Directory) (next from page a : ℕ) (answers : List ℕ) (steps : List Made) (v : View) → IsKind d.kind → Agreed f v steps
    → steps ≡ eligible_looks (number_of d) from answers → next ≤ page → Once (WordReadHere (number_of d) (page / 64) a) steps → has_bit a (page % 64) ≡ true
    → ((p : ℕ) → next ≤ p → p < page → Once (ZeroHere d p) steps) → IsFirstOffered f d next steps page
first_one f d next from page a answers steps v is agreed order low read bit lower =
    let scans : OnlyScans steps = scans_of _ from answers steps order in
    record {
      from_next = low;
      of_region = (one_page f v _ page a steps scans agreed read bit).0;
      one = shown_as true d page a steps scans read bit;
      lower = lower;
      deed = λ w. ap (λ s. known_deed (s ++ w) page) order ∙ one_deed _ page a from answers w (subst (λ s. Once (WordReadHere (number_of d) (page / 64) a) s) order read) bit ∙ numbered d is;
      lacks = λ w agreed'. (one_page f w _ page a steps scans agreed' read bit).1;
    }

-- the lowest page that a row shows, where the rows before it showed none
pub row_one : (f : Profile) (d : Directory) (next from block end page : ℕ) (row answers : List ℕ) (steps : List Made) (v : View) → IsKind d.kind
    → Agreed f v steps → steps ≡ eligible_looks (number_of d) from answers
    → ((p : ℕ) → next ≤ p → p < 64 * block → Once (ZeroHere d p) steps)
    → ((b : ℕ) → block ≤ b → b < end → Once (WordReadHere (number_of d) b (slice_index row (b - block))) steps)
    → page < 64 * end → IsLowestShown row block next page → IsFirstOffered f d next steps page
row_one f d next from block end page row answers steps v is agreed order before words within lowest =
    let low = lowest.from_block in
    first_one f d next from page (slice_index row (page / 64 - block)) answers steps v is agreed order lowest.from_next
    (words (page / 64) (omega (arith, low)) (omega (arith, within))) (sym (shown_bit row block page low) ∙ lowest.shown)
    (row_zeros d next block end page row steps (scans_of _ from answers steps order) before words lowest.lower (omega (arith, within)))

-- the readings of a row, with the steps before it
pub words_later : (number block end : ℕ) (row : List ℕ) (ys xs : List Made)
    → ((b : ℕ) → block ≤ b → b < end → Once (WordReadHere number b (slice_index row (b - block))) ys) → (b : ℕ) → block ≤ b → b < end
    → Once (WordReadHere number b (slice_index row (b - block))) (ys ++ xs)
words_later number block end row ys xs words b low high = once_earlier _ _ ys xs (λ m before h. h) (words b low high)

-- Pages that were read as not offered count so after later steps, too.
pub zeros_later : (d : Directory) (next end : ℕ) (ys xs : List Made) → ((p : ℕ) → next ≤ p → p < end → Once (ZeroHere d p) xs) → (p : ℕ) → next ≤ p → p < end
    → Once (ZeroHere d p) (ys ++ xs)
zeros_later d next end ys xs zeros p low high = once_later (ZeroHere d p) ys xs (zeros p low high)

-- ==== The pages from the next one on that a row shows: the bits of the pages below it, and the row without them.

-- ---- the bits of the pages below the next one
pub low_bits : (block next low ones b : ℕ) → ones ≡ 2 ^ low - 1 → low ≡ next - 64 * block → b < 64 → has_bit ones b ≡ nat_lt (64 * block + b) next
low_bits block next low ones b is at h = search (arith, cases_lt, bit_at_ones, lt-ltb, is_zero, pow_pos, bit_at_above, le-ltb)

-- The ones below a place of a word are the number before its power of two.
pub ones_below : (low : ℕ) → low < 64 → 1 * 2 ^ low % 2 ^ 64 - 1 ≡ 2 ^ low - 1
ones_below low h = let small : 2 ^ low < 2 ^ 64 = pow-lt h in let same : 1 * 2 ^ low % 2 ^ 64 ≡ 2 ^ low = omega (arith, small) in ap (λ n. n - 1) same

module _ (row : List ℕ) (block next below : ℕ) (long : length row ≡ 8) (from : next / 64 ≤ block) (fits : below < 2 ^ 64)
    (bits : (b : ℕ) → b < 64 → has_bit below b ≡ nat_lt (64 * block + b) next) where
  -- the row of these bits
  abbrev pub lower : List ℕ
  lower = slice_set (replicate 8 0) 0 below

  -- the row without them
  abbrev pub open_row : List ℕ
  open_row = slice_set row 0 (bit_and (slice_index row 0) (2 ^ 64 - 1 - below))

  lower_bit : (n : ℕ) → is_set lower n ≡ nat_lt (64 * block + n) next
  lower_bit n = search (arith, cases_lt, get_or-set_same, get_or-set_other, zero_row, none_of_zero, le-ltb)

  open_bit : (n : ℕ) → is_set open_row n ≡ (is_set row n && not (nat_lt (64 * block + n) next))
  open_bit n = search (arith, cases_lt, get_or-set_same, bit_cleared, get_or-set_other, le-ltb, and-true)

  -- a row all of whose bits are of pages below the next one
  pub within_none : IsWithin row lower → ShowsNone row block next
  within_none within p low here = search (arith, cases_Bool, ltb-true, lower_bit)

  -- A page whose bit is clear in the row from `next` on isn't shown.
  unshown : (p : ℕ) → next ≤ p → 64 * block ≤ p → is_set open_row (p - 64 * block) ≡ false → shows_page row block p ≡ false
  unshown p low here none =
      cc (and-true (shows_page row block p), le-ltb (64 * block + (p - 64 * block)) next (omega (arith, low, here)), open_bit (p - 64 * block))

  -- An open row that is empty shows no page.
  pub empty_none : IsEmpty open_row → ShowsNone row block next
  empty_none empty p low here = unshown p low here (empty (p - 64 * block))

  -- The lowest number of an open row is the lowest page that it shows.
  pub lowest_shown : (n : ℕ) → IsLowestSet open_row n → IsLowestShown row block next (64 * block + n)
  lowest_shown n lowest =
      search (arith, and_parts, open_bit, ltb-false, not-true, cases_lt, true≢false, none_past, unshown)
