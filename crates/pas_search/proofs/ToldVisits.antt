-- Visits that are told: a page on which nothing fits is looked for, claimed, read and left, and each word is as it was.
use Rattle.std.proofs.Common.{◌≡◌, ◌≢◌, ℕ, zero, suc, ◌+◌, ◌-◌, ◌*◌, ◌/◌, ◌%◌, ◌^◌, ◌<◌, ◌≤◌, ◌==◌, nat_lt, Bool, true, false, ◌&&◌, ◌||◌, if◌then◌else◌, ◌⊎◌}
use Rattle.std.proofs.Common.{inl, inr, List, [], ◌∷◌, ◌++◌, length, refl, ap, sym, ◌∙◌, subst, arith, bit_and, bit_or, w64, append_assoc, length-append}
use Rattle.std.proofs.{Common.{slice_index, min, get_or, length-set, lt-ltb, not, eqb-true, eq-eqb, le-ltb, ltb-false, ltb-true}, Math.{ListN.set, Nat.suc-mul}}
use Rattle.std.proofs.{Math.{Nat.zero-mul, Bool.and-true}, lemmas.Bool.{Decides.nat_tests, cases_eq, cases_lt, cases_Bool, false_from_ne_true, and_parts}}
use Rattle.std.proofs.lemmas.{Bool.{not-true, not-false}, Nat.{Bits.{same_from_bits_below, bit_at-lt, bit_at-trailing_zeros}, or_lt, and_le_l}}
use Rattle.std.specs.Int.{bit_at, bit_not, trailing_zeros}
use Rattle.pas_bits.proofs.{Words.{bit_of_and, bit_cleared, none_of_zero}, PageVectors.{page_added, page_mask_lt, page_bit-clear}}
use Rattle.pas_bits.specs.{declared.mask.Mask4.Mask4, Bits.{has_bit, count_below}, Masks.is_set, PageVectors.page_mask}
use Rattle.pas_scan.proofs.{ToldLooks.{Told, after, IsMute, told_step, told_as, look_told, values_from, values_many, looks_told, adds_told}, Reading.low_bits}
use Rattle.pas_scan.{proofs.Reading.{ones_below, count_of, first_one, marked_more, scans_of, shown_as}, specs.Marks.{is_marked, IsBehind, IsHighest}}
use Rattle.pas_scan.specs.{Scan.IsFirstOffered, Rows.{eligible_looks, row_end, words_to, WordReadHere}}
use Rattle.pas_steps.specs.{Told.{AreShort, TellsWord, free_by, IsShort, StandsLater, StandsStill}, Past.Once, Evidence.GetsRight, Views.{View, KnowsDeed}}
use Rattle.pas_steps.specs.{Lists.{Whole, Legal, part, word_after}, Desks.{Seat, Standing, AnyView, CanCall, made}, declared.step.Made.Made}
use Rattle.pas_steps.{specs.declared.step.Step.TheVariants.{Look, TakeRight, Offer}, proofs.{Adding.{adds_call, agreed_first}, Frames.knows_still}}
use Rattle.pas_steps.proofs.ShortOfGrains.{short_alike}
use Rattle.pas_profile.specs.{Directories.{number_of, IsDirectory}, Layouts.same_word, Profiles.{IsPage, IsValid, IsWordOf, IsDirectoryOf}}
use Rattle.pas_profile.{specs.declared.{directory.Directory.Directory, profile.Profile.Profile, word.Word.Word}, proofs.Codecs.number_lt}
use Rattle.pas_profile.proofs.{Codecs.directory_from_profile, Places.same_word-true}
use Rattle.pas_core.proofs.Nexts.{agreed_steps, agrees_next}
use Rattle.pas_rights.specs.Looks.{looks}
use Rattle.pas_search.specs.{Passing.{leaving_steps, MayPass, passed_steps, PassesBy, PassesPages}, Searches.GoesOn, Serving.Rule}
use Rattle.pas_search.{specs.declared.{passing.Passed.Passed, placing.LeastRun.LeastRun}, proofs.PagesThatServe.{got_right, passes_page, TriesPages}}

module _ (f : Profile) (k : ℕ) (l : Whole) (actor : k ≤ f.threads) where
  -- the looks at the free words of a page
  page_told : {value : Word → ℕ} {steps : List Made} (page : ℕ) → Told f k l value steps → IsPage f page
      → Told f k l value (looks page (λ i. value (Word.Free page i)) 4 ++ steps)
  page_told {value} page told is =
      let mute : (i : ℕ) → IsMute (Look (Word.Free page i)) = λ i. record { quiet = λ k e a. refl; blind = λ a e. refl; free = λ e old. refl } in
      search (arith, look_told)

-- ---- looks at a row
-- the values of so many words of a page vector from this one on
abbrev pub answers_from : (Word → ℕ) → ℕ → ℕ → ℕ → List ℕ
answers_from value number from n = values_from value (λ j. Word.Eligible number j) from n

answers_many : (value : Word → ℕ) (number from n : ℕ) → length (answers_from value number from n) ≡ n
answers_many value number from n = values_many value (λ j. Word.Eligible number j) from n

-- the looks at so many words of the directory's page vector from this one on
abbrev pub row_looks : (Word → ℕ) → ℕ → ℕ → ℕ → List Made
row_looks value number from n = eligible_looks number from (answers_from value number from n)

-- each of these words is read
pub row_read : (value : Word → ℕ) (number from n b : ℕ) → from ≤ b → b < from + n
    → Once (WordReadHere number b (value (Word.Eligible number b))) (row_looks value number from n)
row_read value number from zero b low high = absurd (omega (arith, low, high))
row_read value number from (suc n) b low high = elim (cases_eq b (from + n)) [
  | inl e ↦ inl (
    ap (λ m. Look (Word.Eligible number m)) (ap (λ m. from + m) (answers_many value number from n) ∙ sym e),
    ap (λ m. value (Word.Eligible number m)) (sym e),
  )
  | inr ne ↦ inr (row_read value number from n b low (omega (arith, high, ne)))
]

row_told : (f : Profile) (k : ℕ) (l : Whole) (actor : k ≤ f.threads) (value : Word → ℕ) (number from n : ℕ) (steps : List Made)
    → number < 23 * f.heaps → from + n ≤ f.pages / 64 + 1 → Told f k l value steps → Told f k l value (row_looks value number from n ++ steps)
row_told f k l actor value number from n steps few within told =
    looks_told f k l actor value (λ j. Word.Eligible number j) from n steps (λ j. record { quiet = λ k e a. refl; blind = λ a e. refl; free = λ e old. refl })
    (λ j low high. (few, omega (arith, within, high))) told

-- ---- a visit
-- the free words of the page
abbrev pub free_of : (Word → ℕ) → ℕ → Mask4
free_of value page = record { 0 = value (Word.Free page 0) ∷ value (Word.Free page 1) ∷ value (Word.Free page 2) ∷ value (Word.Free page 3) ∷ [] }

four : (words : ℕ → ℕ) (i : ℕ) → i < 4 → slice_index (words 0 ∷ words 1 ∷ words 2 ∷ words 3 ∷ []) i ≡ words i
four words zero lt = refl
four words (suc zero) lt = refl
four words (suc (suc zero)) lt = refl
four words (suc (suc (suc zero))) lt = refl
four words (suc (suc (suc (suc i)))) lt = absurd (omega (arith, lt))

-- the word of the page in the page vector of the directory
abbrev pub offered_in : (Word → ℕ) → Directory → ℕ → ℕ
offered_in value d page = value (Word.Eligible (number_of d) (page / 64))

-- the claim, and the looks before it at the words from that of `next` on to the end of the page's row
abbrev pub claim_steps : Profile → (Word → ℕ) → Directory → ℕ → ℕ → List Made
claim_steps f value d next page = made (TakeRight page d) (offered_in value d page) ∷ row_looks value (number_of d) (next / 64) (words_to f next page)

-- and the steps of the back end that leaves it
abbrev pub visit : Profile → (Word → ℕ) → Directory → ℕ → ℕ → List Made
visit f value d next page = leaving_steps page d (free_of value page) (after value (TakeRight page d) (Word.Eligible (number_of d) (page / 64))) ++ claim_steps f value d next page

-- The bit that a claim took is put back by the offer.
bit_same : (m n b : ℕ) → has_bit m b ≡ has_bit n b → bit_at m b ≡ bit_at n b
bit_same m n b h = grind (arith, nat_tests, bit_at-lt)

joined : (a page p : ℕ) → has_bit a (page % 64) ≡ true → (t : Bool) → (page == p) ≡ t → (t || (if t then false else has_bit a (p % 64))) ≡ has_bit a (p % 64)
joined a page p bit t same = search (arith, eqb-true)

put_back_bit : (a page p : ℕ) → p / 64 ≡ page / 64 → has_bit a (page % 64) ≡ true
    → has_bit (bit_or (bit_and a (bit_not w64 (page_mask page))) (page_mask page)) (p % 64) ≡ has_bit a (p % 64)
put_back_bit a page p same bit =
    cc (page_added (bit_and a (bit_not w64 (page_mask page))) page p same, eq-eqb (page / 64) (p / 64) (sym same), page_bit-clear page p a true, joined a page p bit (page == p) refl)

put_back : (a page : ℕ) → a < 2 ^ 64 → has_bit a (page % 64) ≡ true → bit_or (bit_and a (bit_not w64 (page_mask page))) (page_mask page) ≡ a
put_back a page fits bit =
    let small : bit_and a (bit_not w64 (page_mask page)) < 2 ^ 64 = let le = and_le_l a (bit_not w64 (page_mask page)) in omega (arith, le, fits) in
    same_from_bits_below 64 _ a (or_lt 64 _ _ small (page_mask_lt page)) fits (λ b lt.
    let p : ℕ = 64 * (page / 64) + b in let minor : p % 64 ≡ b = omega (arith, lt) in
    bit_same _ a b (subst (λ n. has_bit (bit_or (bit_and a (bit_not w64 (page_mask page))) (page_mask page)) n ≡ has_bit a n) minor (put_back_bit a page p (omega (arith, lt)) bit)))

restored : (t : Bool) (old mask : ℕ) → (t ≡ true → bit_or (bit_and old (bit_not w64 mask)) mask ≡ old)
    → (if t then bit_or (if t then bit_and old (bit_not w64 mask) else old) mask else (if t then bit_and old (bit_not w64 mask) else old)) ≡ old
restored t old mask back = search arith

module _ (f : Profile) (valid : IsValid f) (k : ℕ) (l : Whole) (actor : k ≤ f.threads) (value : Word → ℕ) (d : Directory) (of : IsDirectoryOf f d) where
  -- A visit of an offered page is told, and leaves each word as it was.
  pub visit_told : (next page : ℕ) {steps : List Made} → Told f k l value steps → IsPage f page → next / 64 ≤ row_end f page
      → offered_in value d page < 2 ^ 64 → has_bit (offered_in value d page) (page % 64) ≡ true
      → ((v : View) → KnowsDeed page d (row_looks value (number_of d) (next / 64) (words_to f next page) ++ v))
      → Told f k l value (visit f value d next page ++ steps)
  visit_told next page {steps} told is low fits bit deed =
      let row = row_looks value (number_of d) (next / 64) (words_to f next page) in let few = number_lt d f.heaps of.heap of.kind in
      let at : IsWordOf f (Word.Eligible (number_of d) (page / 64)) = (few, omega (arith, is.1)) in
      let v = (row ++ steps) ++ part k l in
      let knows : KnowsDeed page d v = subst (KnowsDeed page d) (sym (append_assoc row steps (part k l))) (deed (steps ++ part k l)) in
      let first = row_told f k l actor value (number_of d) (next / 64) (words_to f next page) steps few (omega (arith, low)) told in
      let claim : IsMute (TakeRight page d) = record { quiet = λ k e a. refl; blind = λ a e. refl; free = λ e old. refl } in
      let claimed = told_step f k l actor first (TakeRight page d) claim (is, of) at knows in
      let knows' = knows_still f d page (made (TakeRight page d) (offered_in value d page) ∷ []) v
      ((agreed_steps f k l (made (TakeRight page d) (offered_in value d page) ∷ (row ++ steps)) valid claimed.legal).0, tt) knows in
      let offer : IsMute (Offer page d) = record { quiet = λ k e a. refl; blind = λ a e. refl; free = λ e old. refl } in
      let last = told_step f k l actor (page_told f k l actor page (page_told f k l actor page claimed is) is) (Offer page d) offer (is, of) at
      (got_right f d page (made (TakeRight page d) (offered_in value d page)) (row ++ steps) (GetsRight.Claims d (offered_in value d page) bit) v, knows') in
      told_as f k l actor last (λ w of'. restored (same_word (Word.Eligible (number_of d) (page / 64)) w) (value w) (page_mask page) (λ same.
      let e = ap value (same_word-true _ w same) in put_back (value w) page (subst (λ n. n < 2 ^ 64) e fits) (subst (λ n. has_bit n (page % 64) ≡ true) e bit)))

  -- The looks before it show the page as the first that is offered.
  pub first_shown : (next page : ℕ) → Told f k l value [] → IsPage f page → next ≤ page → has_bit (offered_in value d page) (page % 64) ≡ true
      → ((p : ℕ) → next ≤ p → p < page → has_bit (offered_in value d p) (p % 64) ≡ false)
      → IsFirstOffered f d next (row_looks value (number_of d) (next / 64) (words_to f next page)) page
  first_shown next page told is low bit lower =
      let number = number_of d in let m = words_to f next page in let row = row_looks value number (next / 64) m in
      let few = number_lt d f.heaps of.heap of.kind in let answers = answers_from value number (next / 64) m in
      first_one f d next (next / 64) page (offered_in value d page) answers row (part k l) of.kind
      (agreed_first f (part k l) row [] (agreed_steps f k l (row ++ []) valid (row_told f k l actor value number (next / 64) m [] few (omega (arith, low, is.1)) told).legal)) refl low (row_read value number (next / 64) m (page / 64) (omega (arith, low)) (omega (arith, low, is.1))) bit
      (λ p low' high. shown_as false d p _ row (scans_of number (next / 64) answers row refl)
      (row_read value number (next / 64) m (p / 64) (omega (arith, low')) (omega (arith, low, high, is.1))) (lower p low' high))

-- ==== The pages of one block that are passed, one after the other.
module _ {F : Type 0} (rule : Rule F) (f : Profile) (valid : IsValid f) (d : Directory) (of : IsDirectoryOf f d) (value : Word → ℕ) (next block bits : ℕ)
    (low : next / 64 ≤ block) (within : block ≤ f.pages / 64) where
  abbrev pub page_at : ℕ → ℕ
  page_at b = 64 * block + b

  -- where the search goes on after the pages below this bit
  abbrev pub next_at : ℕ → ℕ
  next_at zero = next
  next_at (suc b) = if has_bit bits b then page_at b + 1 else next_at b

  abbrev pub visits_to : ℕ → List Made
  visits_to zero = []
  visits_to (suc b) = if has_bit bits b then visit f value d (next_at b) (page_at b) ++ visits_to b else visits_to b

  abbrev pub marks_to : List ℕ → ℕ → List ℕ
  marks_to marks zero = marks
  marks_to marks (suc b) =
      if has_bit bits b then set (marks_to marks b) (page_at b / 64) (bit_or (get_or (marks_to marks b) (page_at b / 64) 0) (page_mask (page_at b))) else marks_to marks b

  -- ---- what is known of them
  pub record Passable (grains align : ℕ) : Type 0 where
    pub before : (p : ℕ) → next ≤ p → p < 64 * block → has_bit (offered_in value d p) (p % 64) ≡ false
    pub fits : value (Word.Eligible (number_of d) block) < 2 ^ 64
    pub pages : (b : ℕ) → b < 64 → has_bit bits b ≡ true → IsPage f (page_at b)
    pub from_next : (b : ℕ) → b < 64 → has_bit bits b ≡ true → next ≤ page_at b
    pub offered : (b : ℕ) → b < 64 → has_bit bits b ≡ true → has_bit (value (Word.Eligible (number_of d) block)) b ≡ true
    pub lower : (b c : ℕ) → b < 64 → has_bit bits b ≡ true → c < b → next ≤ page_at c → has_bit (value (Word.Eligible (number_of d) block)) c ≡ true
        → has_bit bits c ≡ true
    pub short : (b : ℕ) → b < 64 → has_bit bits b ≡ true → IsShort (free_by value (page_at b)) grains align

  -- ---- how many steps their visits are
  visit_long : (n page : ℕ) → length (visit f value d n page) ≡ words_to f n page + 10
  visit_long n page = let many = count_of (number_of d) (n / 64) (words_to f n page) _ (answers_from value (number_of d) (n / 64) (words_to f n page)) refl
      (answers_many value (number_of d) (n / 64) (words_to f n page)) in omega (arith, many)

  abbrev pub CountedTo : ℕ → Type 0
  CountedTo b = ((count_below b (has_bit bits) ≡ 0) × (next_at b ≡ next) × (length (visits_to b) ≡ 0))
      ⊎ ((1 ≤ count_below b (has_bit bits)) × (64 * block < next_at b) × (next_at b ≤ page_at b)
      × (length (visits_to b) ≡ (row_end f (64 * block) - next / 64 + 10) + (count_below b (has_bit bits) - 1) * (row_end f (64 * block) - block + 10)))

  counted : (b : ℕ) → b ≤ 64 → CountedTo b
  counted zero le = inl (refl, refl, refl)
  counted (suc b) le =
      let long = visit_long (next_at b) (page_at b) in let all = length-append (visit f value d (next_at b) (page_at b)) (visits_to b) in
      let c = count_below b (has_bit bits) in let m = row_end f (64 * block) - block + 10 in elim (cases_Bool (has_bit bits b)) [
        | inl bit ↦ rw bit (elim (counted b (omega (arith, le))) [
          | inl none ↦
              let from = ap (λ n. n / 64) none.1 in let alone : (suc c - 1) * m ≡ 0 = ap (λ c. (suc c - 1) * m) none.0 ∙ (let none : suc 0 - 1 ≡ 0 = omega arith in ap (λ x. x * m) none ∙ zero-mul m) in
              inr (omega arith, omega arith, omega arith, omega (arith, alone, none.2, long, all, from, le))
          | inr some ↦
              let from : next_at b / 64 ≡ block = omega (arith, some.1, some.2, le) in let one : c ≡ suc (c - 1) = omega (arith, some.0) in
              let times : (suc c - 1) * m ≡ m + (c - 1) * m = let less : suc c - 1 ≡ suc (c - 1) = omega (arith, one) in
              let turn : (c - 1) * m + m ≡ m + (c - 1) * m = omega arith in ap (λ x. x * m) less ∙ suc-mul (c - 1) m ∙ turn in
              inr (omega arith, omega arith, omega arith, omega (arith, some.3, long, all, from, times, le))
        ])
        | inr clear ↦ rw clear (elim (counted b (omega (arith, le))) [ inl none ↦ inl none | inr some ↦ inr (some.0, some.1, omega (arith, some.2), some.3) ])
      ]

  -- ---- where the search goes on
  next_low : {grains align : ℕ} → Passable grains align → (b : ℕ) → b ≤ 64 → next ≤ next_at b
  next_low can zero le = omega arith
  next_low can (suc b) le = let before = next_low can b (omega (arith, le)) in let here = can.from_next b (omega (arith, le)) in grind (arith, before, here)

  above_both : (t : Bool) {x y p : ℕ} → p < x → p < y → p < (if t then x else y)
  above_both t a b = search arith

  next_above : (b c : ℕ) → c < b → has_bit bits c ≡ true → page_at c < next_at b
  next_above zero c lt bit = absurd (omega (arith, lt))
  next_above (suc b) c lt bit = elim (cases_eq c b) [
    | inl e ↦ subst (λ t. page_at c < (if t then page_at b + 1 else next_at b)) (sym bit ∙ ap (has_bit bits) e) (omega (arith, e))
    | inr ne ↦ above_both (has_bit bits b) (omega (arith, lt)) (next_above b c (omega (arith, lt, ne)) bit)
  ]

  -- The search goes on behind the highest page.
  next_highest : (h : ℕ) → IsHighest bits h → (b : ℕ) → h < b → next_at b ≡ page_at h + 1
  next_highest h is zero lt = absurd (omega (arith, lt))
  next_highest h is (suc b) lt = elim (cases_eq h b) [
    | inl e ↦ ap (λ t. if t then page_at b + 1 else next_at b) (ap (has_bit bits) (sym e) ∙ is.set) ∙ ap (λ x. page_at x + 1) (sym e)
    | inr ne ↦ ap (λ t. if t then page_at b + 1 else next_at b) (is.highest b (omega (arith, lt, ne))) ∙ next_highest h is b (omega (arith, lt, ne))
  ]

  -- No page between them is offered.
  zero_at : {grains align : ℕ} → Passable grains align → (b : ℕ) → b < 64 → has_bit bits b ≡ true → (p : ℕ) → next_at b ≤ p → p < page_at b
      → has_bit (offered_in value d p) (p % 64) ≡ false
  zero_at can b lt bit p low' high = elim (cases_lt p (64 * block)) [
    | inl below ↦ can.before p (let first = next_low can b (omega (arith, lt)) in omega (arith, first, low')) below
    | inr ge ↦
        let c : ℕ = p % 64 in let at : p / 64 ≡ block = omega (arith, ge, high, lt) in let is : page_at c ≡ p = omega (arith, at) in let less : c < b = omega (arith, is, high) in
        false_from_ne_true _ (λ one.
        let more = next_above b c less (can.lower b c lt bit less (omega (arith, is, next_low can b (omega (arith, lt)), low')) (ap (λ j. has_bit (value (Word.Eligible (number_of d) j)) c) (sym at) ∙ one)) in
        absurd (omega (arith, more, is, low')))
  ]

  -- ---- the marks of the pages
  marks_long : (marks : List ℕ) (b : ℕ) → length (marks_to marks b) ≡ length marks
  marks_long marks zero = refl
  marks_long marks (suc b) = search (arith, cases_Bool, length-set, (marks_long marks b))

  mark_more : (marks : List ℕ) → length marks ≡ 257 → (b : ℕ) → has_bit bits b ≡ true → b < 64 → block < 257 → (p : ℕ)
      → is_marked (marks_to marks (suc b)) p ≡ ((page_at b == p) || is_marked (marks_to marks b) p)
  mark_more marks long b bit lt small p =
      ap (λ t. is_marked (if t then set (marks_to marks b) (page_at b / 64) (bit_or (get_or (marks_to marks b) (page_at b / 64) 0) (page_mask (page_at b))) else marks_to marks b) p) bit
      ∙ marked_more (marks_to marks b) (page_at b) _ p (let same = marks_long marks b in omega (arith, same, long, lt, small))
      (page_added (get_or (marks_to marks b) (page_at b / 64) 0) (page_at b) p)

  one_more : (b p : ℕ) (t m : Bool) → has_bit bits b ≡ t → b < 64
      → (if t then (page_at b == p) || (((p / 64 == block) && (nat_lt (p % 64) b && has_bit bits (p % 64))) || m) else
      (((p / 64 == block) && (nat_lt (p % 64) b && has_bit bits (p % 64))) || m))
      ≡ (((p / 64 == block) && (nat_lt (p % 64) (suc b) && has_bit bits (p % 64))) || m)
  one_more b p t m e lt = elim (cases_eq (page_at b) p) [
    | inl same ↦ let minor : p % 64 ≡ b = omega (arith, same, lt) in let major : p / 64 ≡ block = omega (arith, same, lt) in grind (arith, nat_tests, same, minor, major, e)
    | inr other ↦ let apart : p / 64 ≡ block → p % 64 ≢ b = λ major minor. other (omega (arith, major, minor)) in grind (arith, nat_tests, other, apart, e)
  ]

  marks_are : (marks : List ℕ) → length marks ≡ 257 → block < 257 → (b : ℕ) → b ≤ 64 → (p : ℕ)
      → is_marked (marks_to marks b) p ≡ (((p / 64 == block) && (nat_lt (p % 64) b && has_bit bits (p % 64))) || is_marked marks p)
  marks_are marks long small zero le p = grind (arith, nat_tests)
  marks_are marks long small (suc b) le p = elim (cases_Bool (has_bit bits b)) [
    | inl e ↦ mark_more marks long b e (omega (arith, le)) small p ∙ ap (λ x. (page_at b == p) || x) (marks_are marks long small b (omega (arith, le)) p)
        ∙ one_more b p true (is_marked marks p) e (omega (arith, le))
    | inr e ↦ rw e (marks_are marks long small b (omega (arith, le)) p ∙ one_more b p false (is_marked marks p) e (omega (arith, le)))
  ]

  -- ---- all visits of pages below a bit
  module _ {grains align : ℕ} (can : Passable grains align) (first : (b : ℕ) → b < 64 → has_bit bits b ≡ true
      → IsFirstOffered f d (next_at b) (row_looks value (number_of d) (next_at b / 64) (words_to f (next_at b) (page_at b))) (page_at b)) where
    block_bit : (b : ℕ) → b < 64 → has_bit bits b ≡ true → has_bit (offered_in value d (page_at b)) (page_at b % 64) ≡ true
    block_bit b lt bit = let major : block ≡ page_at b / 64 = omega (arith, lt) in let minor : b ≡ page_at b % 64 = omega (arith, lt) in
        subst (λ n. has_bit (offered_in value d (page_at b)) n ≡ true) minor (subst (λ n. has_bit (value (Word.Eligible (number_of d) n)) b ≡ true) major (can.offered b lt bit))

    told_to : (k : ℕ) (l : Whole) → k ≤ f.threads → Told f k l value [] → (b : ℕ) → b ≤ 64 → Told f k l value (visits_to b)
    told_to k l actor told zero le = told
    told_to k l actor told (suc b) le = elim (cases_Bool (has_bit bits b)) [
      | inl bit ↦
          let so_far = told_to k l actor told b (omega (arith, le)) in let major : block ≡ page_at b / 64 = omega (arith, le) in let lt : b < 64 = omega (arith, le) in
          rw bit (visit_told f valid k l actor value d of (next_at b) (page_at b) so_far (can.pages b lt bit) (omega (arith, lt, ((first b lt bit).from_next), within))
          (subst (λ n. value (Word.Eligible (number_of d) n) < 2 ^ 64) major can.fits) (block_bit b lt bit) (first b lt bit).deed)
      | inr clear ↦ rw clear (told_to k l actor told b (omega (arith, le)))
    ]

    module _ (run : LeastRun) (grains_are : grains ≡ run.grains) (align_is : align ≡ run.align) (passes : PassesBy rule d run) (marks : List ℕ)
        (long : length marks ≡ 257) (small : block < 257) (xs : List Made) (goes : GoesOn rule f d next marks xs) where
      short_at : (b : ℕ) → b < 64 → has_bit bits b ≡ true → IsShort (is_set (free_of value (page_at b))) run.grains run.align
      short_at b lt bit = short_alike run.grains run.align (λ g less. sym (ap (λ n. has_bit n (g % 64)) (four (λ i. value (Word.Free (page_at b) i)) (g / 64) (omega (arith, less)))))
          (subst (λ n. IsShort (free_by value (page_at b)) n run.align) grains_are (subst (λ n. IsShort (free_by value (page_at b)) grains n) align_is (can.short b lt bit)))

      goes_to : (b : ℕ) → b ≤ 64 → GoesOn rule f d (next_at b) (marks_to marks b) (visits_to b ++ xs)
      goes_to zero le = goes
      goes_to (suc b) le = elim (cases_Bool (has_bit bits b)) [
        | inl e ↦
            let lt : b < 64 = omega (arith, le) in let n = next_at b in let p = page_at b in let row = row_looks value (number_of d) (n / 64) (words_to f n p) in
            let answers = answers_from value (number_of d) (n / 64) (words_to f n p) in
            let passed = passes_page rule f d n p (offered_in value d p) (marks_to marks b) (marks_to marks (suc b)) (visits_to b ++ xs) row
            (leaving_steps p d (free_of value p) (after value (TakeRight p d) (Word.Eligible (number_of d) (p / 64)))) (goes_to b (omega (arith, le))) (first b lt e)
            (scans_of (number_of d) (n / 64) answers row refl) (count_of (number_of d) (n / 64) (words_to f n p) row answers refl (answers_many value (number_of d) (n / 64) (words_to f n p)))
            (block_bit b lt e) (mark_more marks long b e lt small) (passes.steps f p (free_of value p) _ (directory_from_profile f d valid of) (short_at b lt e)) in
            rw e (rw (append_assoc (visit f value d n p) (visits_to b) xs) (rw e at passed))
        | inr e ↦ rw e (goes_to b (omega (arith, le)))
      ]

-- A search goes on by marks that are alike.
goes_alike : {F : Type 0} (rule : Rule F) (f : Profile) (d : Directory) (next : ℕ) (marks same : List ℕ) (xs : List Made)
    → ((p : ℕ) → is_marked marks p ≡ is_marked same p) → GoesOn rule f d next marks xs → GoesOn rule f d next same xs
goes_alike rule f d next marks same xs alike goes = let s = goes.searching in record {
  searching = search (arith, s.marked, s.zeros, s.lacked);
  rest = λ p low. sym (alike p) ∙ goes.rest p low;
  within = goes.within;
  few = goes.few;
}

-- ==== The pages of one block are passed by at a desk that tells the whole state.
module _ {F : Type 0} (rule : Rule F) (σ σ' : Standing) (tells : Bool) (d : Directory) (of : IsDirectoryOf σ.seat.profile d) (valid : IsValid σ.seat.profile)
    (run : LeastRun) (next : ℕ) (passed : Passed) (may : MayPass tells σ d next run passed) (can : CanCall σ AnyView)
    (legal : (v : View) (l : Whole) → σ.stands v l → Legal σ.seat.profile l) (own : (v : View) (l : Whole) → σ.stands v l → part σ.seat.actor l ≡ v) where
  abbrev pub region : Profile
  region = σ.seat.profile

  -- the words of the state
  abbrev pub value : Word → ℕ
  value = word_after can.whole

  unchanged : (v : View) (l : Whole) → σ.stands v l → Told region σ.seat.actor l value []
  unchanged v l stood = record { legal = legal v l stood; words = λ w of'. may.told.one_state v can.view l can.whole stood can.stood w of'; events = refl; epoch = refl }

  word_is : value (Word.Eligible (number_of d) passed.block) ≡ may.word
  word_is = may.told.is can.view can.whole can.stood

  actor : σ.seat.actor ≤ region.threads
  actor = may.told.actor can.view can.whole can.stood

  passable : Passable rule region valid d of value next passed.block passed.pages may.block.0 may.block.1 run.grains run.align
  passable = record {
    before = may.before can.view can.whole can.stood;
    fits = subst (λ n. n < 2 ^ 64) (sym word_is) may.fits;
    pages = λ b lt bit. (agrees_next region can.whole σ.seat.actor can.view (Look (Word.Eligible (number_of d) passed.block)) may.word valid (legal can.view can.whole can.stood)
        (own can.view can.whole can.stood) (number_lt d region.heaps of.heap of.kind, omega (arith, may.block)) (sym word_is)).page b lt (may.offered b lt bit);
    from_next = may.from_next;
    offered = λ b lt bit. ap (λ n. has_bit n b) word_is ∙ may.offered b lt bit;
    lower = λ b c lt bit less low one. may.lower b c lt bit less low (sym (ap (λ n. has_bit n c) word_is) ∙ one);
    short = λ b lt bit. may.short b lt bit can.view can.whole can.stood;
  }

  abbrev goes_at : ℕ → ℕ
  goes_at = next_at rule region valid d of value next passed.block passed.pages may.block.0 may.block.1

  abbrev steps_to : ℕ → List Made
  steps_to = visits_to rule region valid d of value next passed.block passed.pages may.block.0 may.block.1

  count_to : (b : ℕ) → b ≤ 64 → CountedTo rule region valid d of value next passed.block passed.pages may.block.0 may.block.1 b
  count_to = counted rule region valid d of value next passed.block passed.pages may.block.0 may.block.1

  next_high : (b : ℕ) → b < 64 → has_bit passed.pages b ≡ true → goes_at b ≤ 64 * passed.block + b
  next_high b lt bit = elim (count_to b (omega (arith, lt))) [ inl none ↦ let at = may.from_next b lt bit in omega (arith, none.1, at) | inr some ↦ some.2 ]

  first : (b : ℕ) → b < 64 → has_bit passed.pages b ≡ true
      → IsFirstOffered region d (goes_at b) (row_looks value (number_of d) (goes_at b / 64) (words_to region (goes_at b) (64 * passed.block + b)))
      (64 * passed.block + b)
  first b lt bit =
      let page : ℕ = 64 * passed.block + b in
      let major : passed.block ≡ page / 64 = omega (arith, lt) in let minor : b ≡ page % 64 = omega (arith, lt) in
      first_shown region valid σ.seat.actor can.whole actor value d of (goes_at b) page (unchanged can.view can.whole can.stood) (passable.pages b lt bit) (next_high b lt bit)
      (subst (λ n. has_bit (offered_in value d page) n ≡ true) minor (subst (λ n. has_bit (value (Word.Eligible (number_of d) n)) b ≡ true) major (passable.offered b lt bit)))
      (zero_at rule region valid d of value next passed.block passed.pages may.block.0 may.block.1 passable b lt bit)

  idle : (v : View) (l : Whole) → σ.stands v l → Told region σ.seat.actor l value (steps_to 64)
  idle v l stood = told_to rule region valid d of value next passed.block passed.pages may.block.0 may.block.1 passable first σ.seat.actor l actor (unchanged v l stood) 64 (omega arith)

  -- Pages that are passed by at a desk are searched, by the steps that it was told.
  pub passes_block : (next' count : ℕ) (marks marks' : List ℕ) → PassesBy rule d run → IsDirectory d → StandsLater count σ σ'
      → count ≡ passed_steps region.pages next passed.block passed.pages → IsBehind passed.block passed.pages next' → length marks ≡ 257
      → ((p : ℕ) → is_marked marks' p ≡ (((p / 64 == passed.block) && has_bit passed.pages (p % 64)) || is_marked marks p))
      → PassesPages rule d next next' marks marks' σ σ'
  passes_block next' count marks marks' passes is later count_is behind long more =
      let at = next_highest rule region valid d of value next passed.block passed.pages may.block.0 may.block.1 behind.bit behind.highest 64 behind.highest.within in
      let row : row_end region (64 * passed.block) ≡ min (8 * (passed.block / 8 + 1)) (region.pages / 64 + 1) = omega arith in
      let many : length (steps_to 64) ≡ count = elim (count_to 64 (omega arith)) [
        | inl none ↦ let low = may.from_next behind.bit behind.highest.within behind.highest.set in absurd (omega (arith, none.1, at, low))
        | inr some ↦ some.3 ∙ ap (λ e. (e - next / 64 + 10) + (count_below 64 (has_bit passed.pages) - 1) * (e - passed.block + 10)) row ∙ sym count_is
      ] in
      record {
        steps = steps_to 64;
        adds = adds_told σ σ' value (steps_to 64) valid (subst (λ n. StandsLater n σ σ') (sym many) later) own (λ v l stood w of'. (unchanged v l stood).words w of') idle;
        goes = λ xs goes.
            goes_alike rule region d next' (marks_to rule region valid d of value next passed.block passed.pages may.block.0 may.block.1 marks 64) marks' (steps_to 64 ++ xs) (λ p. marks_are rule region valid d of value next passed.block passed.pages may.block.0 may.block.1 marks long (let b = may.block.1 in let most = valid.pages in omega (arith, b, most)) 64 (omega arith) p
            ∙ ap (λ t. ((p / 64 == passed.block) && (t && has_bit passed.pages (p % 64))) || is_marked marks p) (lt-ltb (p % 64) 64 (omega arith)) ∙ sym (more p))
            (subst (λ n. GoesOn rule region d n (marks_to rule region valid d of value next passed.block passed.pages may.block.0 may.block.1 marks 64) (steps_to 64 ++ xs)) (at ∙ sym behind.behind)
            (goes_to rule region valid d of value next passed.block passed.pages may.block.0 may.block.1 passable first run refl refl passes marks long
            (let b = may.block.1 in let most = valid.pages in omega (arith, b, most)) xs goes 64 (omega arith)));
      }

-- No page is passed by.
pub passes_none : {F : Type 0} (rule : Rule F) (d : Directory) (next : ℕ) (marks : List ℕ) (σ σ' : Standing) → StandsStill σ σ'
    → PassesPages rule d next next marks marks σ σ'
passes_none rule d next marks σ σ' still = record {
  steps = [];
  adds = record { seat_is = still.seat_is; added = λ v l stood met. still.stands v l stood; agreed = λ v l stood met. tt };
  goes = λ xs goes. goes;
}

-- What could be called can be called still.
pub still_can : {σ σ' : Standing} {C : View → Type 0} → StandsStill σ σ' → CanCall σ C → CanCall σ' C
still_can still can = record { view = can.view; whole = can.whole; stood = still.stands can.view can.whole can.stood; met = can.met }

-- Pages that are passed by after others are passed by with them.
pub passes_more : {F : Type 0} {rule : Rule F} {d : Directory} {next mid last : ℕ} {marks marks1 marks2 : List ℕ} {σ σ1 σ2 : Standing}
    → PassesPages rule d next mid marks marks1 σ σ1 → PassesPages rule d mid last marks1 marks2 σ1 σ2 → PassesPages rule d next last marks marks2 σ σ2
passes_more {rule = rule} {d} {next} {mid} {last} {marks} {marks1} {marks2} {σ} a b = record {
  steps = b.steps ++ a.steps;
  adds = adds_call {D = AnyView} a.adds b.adds (λ v l stood met. tt);
  goes = λ xs goes. subst (λ ys. GoesOn rule σ.seat.profile d last marks2 ys) (sym (append_assoc b.steps a.steps xs))
      (subst (λ (s : Seat). GoesOn rule s.profile d mid marks1 (a.steps ++ xs) → GoesOn rule s.profile d last marks2 (b.steps ++ (a.steps ++ xs))) a.adds.seat_is (b.goes (a.steps ++ xs)) (a.goes xs goes));
}

-- A search that passes pages by has tried them.
pub tries_passed : {F : Type 0} {rule : Rule F} {d d' : Directory} {next last : ℕ} {marks marks' : List ℕ} {σ0 σ σ' : Standing} → d' ≡ d
    → TriesPages rule d next marks σ0 σ → PassesPages rule d' next last marks marks' σ σ' → TriesPages rule d last marks' σ0 σ'
tries_passed {rule = rule} {d} {d'} {next} {last} {marks} {marks'} {σ0} {σ} {σ'} same tries passes' =
    let passes : PassesPages rule d next last marks marks' σ σ' = subst (λ x. PassesPages rule x next last marks marks' σ σ') same passes' in record {
      steps = passes.steps ++ tries.steps;
      adds = adds_call {D = AnyView} tries.adds passes.adds (λ v l stood met. tt);
      goes = subst (λ (s : Seat). GoesOn rule s.profile d next marks tries.steps → GoesOn rule s.profile d last marks' (passes.steps ++ tries.steps)) tries.adds.seat_is (passes.goes tries.steps) tries.goes;
    }

-- ---- which pages of a block are passed by
-- A page from the next one on is open just where its word says so.
pub open_bit : (word below block next b : ℕ) → below < 2 ^ 64 → ((c : ℕ) → c < 64 → has_bit below c ≡ nat_lt (64 * block + c) next) → b < 64
    → has_bit (bit_and word (bit_not w64 below)) b ≡ (has_bit word b && not (nat_lt (64 * block + b) next))
open_bit word below block next b fits bits lt = bit_cleared word below b fits lt ∙ ap (λ t. has_bit word b && not t) (bits b lt)

-- the bits of a word that are of pages from the next one on
abbrev pub AreOpen : ℕ → ℕ → ℕ → ℕ → Type 0
AreOpen word block next offered = (b : ℕ) → b < 64 → has_bit offered b ≡ (has_bit word b && not (nat_lt (64 * block + b) next))

-- A block without an open page has none that is offered.
pub none_open : (word block next offered p : ℕ) → AreOpen word block next offered → offered ≡ 0 → p / 64 ≡ block → next ≤ p → has_bit word (p % 64) ≡ false
none_open word block next offered p bits none at low =
    sym (and-true (has_bit word (p % 64))) ∙ ap (λ t. has_bit word (p % 64) && not t) (sym (le-ltb (64 * block + p % 64) next (omega (arith, at, low)))) ∙ sym (bits (p % 64) (omega arith)) ∙ ap (λ n. has_bit n (p % 64)) none
    ∙ none_of_zero (p % 64)

-- Of the open pages of a block the lowest ones that are short may be passed by.
module _ (tells : Bool) (σ : Standing) (d : Directory) (next block word offered short pages : ℕ) (run : LeastRun) (bits : AreOpen word block next offered)
    (both : (b : ℕ) → b < 64 → has_bit pages b ≡ true → (has_bit offered b ≡ true) × (has_bit short b ≡ true)) where
  open_parts : (b : ℕ) → b < 64 → has_bit pages b ≡ true → (has_bit word b ≡ true) × (not (nat_lt (64 * block + b) next) ≡ true)
  open_parts b lt bit = and_parts (has_bit word b) (not (nat_lt (64 * block + b) next)) (sym (bits b lt) ∙ (both b lt bit).0)

  pub may_pass : pages ≢ 0 → (next / 64 ≤ block) × (block ≤ σ.seat.profile.pages / 64) → word < 2 ^ 64
      → TellsWord tells σ (Word.Eligible (number_of d) block) word
      → ((v : View) (l : Whole) → σ.stands v l → (p : ℕ) → next ≤ p → p < 64 * block
      → has_bit (word_after l (Word.Eligible (number_of d) (p / 64))) (p % 64) ≡ false)
      → ((b c : ℕ) → b < 64 → has_bit pages b ≡ true → c < b → has_bit offered c ≡ true → has_bit pages c ≡ true)
      → AreShort σ run.grains run.align block short → MayPass tells σ d next run (record { block = block; pages = pages })
  may_pass some within fits told before lowest are = record {
    some = some;
    block = within;
    word = word;
    fits = fits;
    told = told;
    before = before;
    from_next = λ b lt bit. ltb-false (64 * block + b) next (not-true (nat_lt (64 * block + b) next) (open_parts b lt bit).1);
    offered = λ b lt bit. (open_parts b lt bit).0;
    lower = λ b c lt bit less low one. lowest b c lt bit less (cc (bits c (omega (arith, less, lt)), le-ltb (64 * block + c) next low));
    short = λ b lt bit v l stood. are b lt (both b lt bit).1 v l stood;
  }

-- A bit of the offered pages that isn't cut off is one of the short ones.
pub short_too : (offered short : ℕ) → short < 2 ^ 64 → (b : ℕ) → b < 64 → bit_and offered (bit_not w64 short) ≡ 0 → has_bit offered b ≡ true
    → has_bit short b ≡ true
short_too offered short fits b lt none bit =
    not-false (has_bit short b) (sym (ap (λ t. t && not (has_bit short b)) bit) ∙ sym (bit_cleared offered short b fits lt) ∙ ap (λ n. has_bit n b) none ∙ none_of_zero b)

module _ (offered short : ℕ) (small : offered < 2 ^ 64) (fits : short < 2 ^ 64) (some : bit_and offered (bit_not w64 short) ≢ 0) where
  abbrev stop : ℕ
  stop = bit_and offered (bit_not w64 short)

  abbrev low : ℕ
  low = trailing_zeros w64 stop

  lowest_stop : (low < 64) × (bit_at stop low ≡ 1) × ((i : ℕ) → i < low → bit_at stop i ≡ 0)
  lowest_stop = let le = and_le_l offered (bit_not w64 short) in bit_at-trailing_zeros w64 stop (omega (arith, some)) (omega (arith, le, small))

  kept_bit : (b : ℕ) → b < 64 → has_bit (bit_and offered (1 * 2 ^ low % 2 ^ 64 - 1)) b ≡ (has_bit offered b && nat_lt b low)
  kept_bit b lt = bit_of_and offered (1 * 2 ^ low % 2 ^ 64 - 1) b
      ∙ ap (λ t. has_bit offered b && t) (low_bits 0 low low (1 * 2 ^ low % 2 ^ 64 - 1) b (ones_below low lowest_stop.0) (omega arith) lt ∙ let same : 64 * 0 + b ≡ b = omega arith in ap (λ n. nat_lt n low) same)

  pub lowest_both : (b : ℕ) → b < 64 → has_bit (bit_and offered (1 * 2 ^ low % 2 ^ 64 - 1)) b ≡ true → (has_bit offered b ≡ true) × (has_bit short b ≡ true)
  lowest_both b lt bit =
      let both = and_parts (has_bit offered b) (nat_lt b low) (sym (kept_bit b lt) ∙ bit) in
      (both.0, not-false (has_bit short b) (sym (ap (λ t. t && not (has_bit short b)) both.0) ∙ sym (bit_cleared offered short b fits lt) ∙ ap (λ n. n == 1) (lowest_stop.2 b (ltb-true b low both.1))))

  pub lowest_lower : (b c : ℕ) → b < 64 → has_bit (bit_and offered (1 * 2 ^ low % 2 ^ 64 - 1)) b ≡ true → c < b → has_bit offered c ≡ true
      → has_bit (bit_and offered (1 * 2 ^ low % 2 ^ 64 - 1)) c ≡ true
  lowest_lower b c lt bit less one =
      let both = and_parts (has_bit offered b) (nat_lt b low) (sym (kept_bit b lt) ∙ bit) in let under = ltb-true b low both.1 in
      kept_bit c (omega (arith, less, lt)) ∙ ap (λ t. t && nat_lt c low) one ∙ lt-ltb c low (omega (arith, less, under))

-- One more block is passed by.
pub passes_turn : {F : Type 0} (rule : Rule F) {σ0 σ σ' : Standing} (tells : Bool) (d d' : Directory) → d' ≡ d → IsDirectoryOf σ0.seat.profile d
    → IsValid σ.seat.profile
    → (run : LeastRun) (first next next' count : ℕ) (marks0 marks marks' : List ℕ) (passed : Passed) → PassesPages rule d first next marks0 marks σ0 σ
    → MayPass tells σ d' next run passed → CanCall σ AnyView → ((v : View) (l : Whole) → σ.stands v l → Legal σ.seat.profile l)
    → ((v : View) (l : Whole) → σ.stands v l → part σ.seat.actor l ≡ v) → PassesBy rule d run → StandsLater count σ σ'
    → count ≡ passed_steps σ.seat.profile.pages next passed.block passed.pages → IsBehind passed.block passed.pages next' → length marks ≡ 257
    → ((p : ℕ) → is_marked marks' p ≡ (((p / 64 == passed.block) && has_bit passed.pages (p % 64)) || is_marked marks p))
    → PassesPages rule d first next' marks0 marks' σ0 σ'
passes_turn rule {σ0} {σ} {σ'} tells d d' same of valid run first next next' count marks0 marks marks' passed passes may can legal own by later count_is behind long more =
    let here : IsDirectoryOf σ.seat.profile d = subst (λ (s : Seat). IsDirectoryOf s.profile d) (sym passes.adds.seat_is) of in
    passes_more passes (passes_block rule σ σ' tells d here valid run next passed (subst (λ x. MayPass tells σ x next run passed) same may) can legal own next' count marks marks' by
    (directory_from_profile σ.seat.profile d valid here) later count_is behind long more)
