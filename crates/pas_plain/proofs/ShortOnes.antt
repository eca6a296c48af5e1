-- Pages that are noted as short of free grains: as a word is written, and as notes come and go.
use Rattle.std.proofs.Common.{◌≡◌, ◌≢◌, ℕ, zero, suc, ◌+◌, ◌-◌, ◌/◌, ◌%◌, ◌^◌, ◌<◌, ◌≤◌, ◌==◌, Bool, true, false, not, ◌&&◌, ◌||◌, if◌then◌else◌, ◌⊎◌, inl, inr}
use Rattle.std.proofs.Common.{List, [], ◌∷◌, ◌++◌, length, replicate, refl, ap, sym, ◌∙◌, arith, true≢false, bit_and, w64, eq-eqb, ne_eqb, get_or}
use Rattle.std.proofs.{Common.{get_or-set_same, get_or-set_other, slice_index, length-set, Option, MatchOption}, Math.ListN.set, lemmas.Bool.cases_eq}
use Rattle.std.{proofs.lemmas.Bool.{not-false, not-true, and_parts, false_from_ne_true}, specs.{Int.bit_not, Option.is_some}}
use Rattle.pas_bits.specs.{declared.mask.Mask4.Mask4, Masks.{is_set, HasMember, HasNoPlace}, Bits.has_bit, PageVectors.{is_in_word, page_mask}}
use Rattle.pas_bits.proofs.{PageVectors.page_bit-clear, Words.{bit_cleared, none_of_zero}}
use Rattle.pas_profile.{specs.{Layouts.same_word, Profiles.IsWordIn, declared.word.Word.Word}, proofs.Places.same_word-true}
use Rattle.pas_steps.{specs.{Paged.value_in, Told.free_by, declared.paged.PagedWords.PagedWords}, proofs.ShortOfGrains.short_alike}
use Rattle.pas_plain.specs.{ShortRows.{has_page, no_row, row_at}, Short.{GotNone, HasNote, IsShortPage}, declared.short.ShortPages.ShortPages}
use Rattle.pas_plain.specs.declared.short.ShortRow.{ShortRow}

-- ---- bits
clear_as : (t b : Bool) → (if t then false else b) ≡ (not t && b)
clear_as t b = grind arith

-- A page's word without the page has each other page that it had.
pub page_cleared : (word page p : ℕ) → p / 64 ≡ page / 64 → is_in_word (bit_and word (bit_not w64 (page_mask page))) p ≡ (not (page == p) && is_in_word word p)
page_cleared word page p same =
    cc (eq-eqb (page / 64) (p / 64) (sym same), page_bit-clear page p word true, clear_as (page == p) (is_in_word word p))

-- Where nothing is left of a word without another, it has no bit that the other hasn't.
pub got_none : (old new : ℕ) → old < 2 ^ 64 → bit_and new (bit_not w64 old) ≡ 0 → GotNone old new
got_none old new fits none b lt bit =
    not-false (has_bit old b) (sym (ap (λ t. t && not (has_bit old b)) bit) ∙ sym (bit_cleared new old b fits lt) ∙ ap (λ n. has_bit n b) none ∙ none_of_zero b)

-- ---- a row
-- A note after a row was written is an old one, or that row has it.
pub note_there : (old new : ShortPages) (at : ℕ) (row : ShortRow) → new.rows.items ≡ set old.rows.items at row → at < length old.rows.items → (g a p : ℕ)
    → HasNote new g a p → HasNote old g a p ⊎ ((row.grains ≡ g) × (row.align ≡ a) × (has_page row.pages p ≡ true))
note_there old new at row written within g a p note =
    let row_is : row_at new.rows.items note.at ≡ get_or (set old.rows.items at row) note.at no_row = ap (λ rows. get_or rows note.at no_row) written in
    elim (cases_eq note.at at) [
      | inl e ↦
          let here = row_is ∙ ap (λ i. get_or (set old.rows.items at row) i no_row) e ∙ get_or-set_same old.rows.items at row no_row within in
          inr (sym (ap (λ (r : ShortRow). r.grains) here) ∙ note.row.grains_are, sym (ap (λ (r : ShortRow). r.align) here) ∙ note.row.align_is, sym (ap (λ (r : ShortRow). has_page r.pages p) here) ∙ note.here)
      | inr ne ↦
          search (arith, row_is, get_or-set_other, length-set)
    ]

-- one word was written
abbrev pub IsWritten : ℕ → ℕ → PagedWords → PagedWords → Word → ℕ → Type 0
IsWritten pages heaps old new word value = (w : Word) → IsWordIn pages heaps w → value_in new w ≡ (if same_word word w then value else value_in old w)

module _ (pages within heaps : ℕ) (same : within ≡ pages) (old new : PagedWords) (word : Word) (value : ℕ) (written : IsWritten within heaps old new word value)
    (grains align p : ℕ) where
  -- that isn't a free word of the page
  pub short_apart : ((i : ℕ) → same_word word (Word.Free p i) ≡ false) → IsShortPage pages old grains align p → IsShortPage pages new grains align p
  short_apart other short = record {
    of_region = short.of_region;
    short = short_alike grains align (λ g lt. cc (written (Word.Free p (g / 64)) (short.of_region.0, omega (arith, short.of_region.1, same), omega (arith, lt)), other (g / 64))) short.short;
  }

  free_before : (g : ℕ) (t : Bool) → same_word word (Word.Free p (g / 64)) ≡ t → GotNone (value_in old word) value
      → has_bit (if t then value else value_in old (Word.Free p (g / 64))) (g % 64) ≡ true → free_by (value_in old) p g ≡ true
  free_before g t same got free = search (arith, same_word-true)

  -- by which none of its grains got free, and after which some is free still
  pub short_still : GotNone (value_in old word) value → (((g : ℕ) → g < 256 → free_by (value_in new) p g ≡ false) → ⊥) → IsShortPage pages old grains align p
      → IsShortPage pages new grains align p
  short_still got some short = record {
    of_region = short.of_region;
    short = record {
      some = some;
      none = λ h aligned in_page run. short.short.none h aligned in_page (λ x low high. free_before x (same_word word (Word.Free p (x / 64))) refl got
          (sym (ap (λ n. has_bit n (x % 64)) (written (Word.Free p (x / 64)) (short.of_region.0, omega (arith, short.of_region.1, same), omega (arith, high, in_page)))) ∙ run x low high));
    };
  }

-- The free words of two pages are apart.
abbrev page_of : Word → ℕ
page_of (Word.Free p i) = p
page_of w = 0

pub apart_pages : (q i p j : ℕ) → p ≢ q → same_word (Word.Free q i) (Word.Free p j) ≡ false
apart_pages q i p j ne = false_from_ne_true _ (λ e. ne (sym (ap page_of (same_word-true (Word.Free q i) (Word.Free p j) e))))

-- ---- rows as lists
in_range : {A : Type 0} (xs : List A) (i : ℕ) (d e : A) → i < length xs → get_or xs i d ≡ get_or xs i e
in_range [] i d e lt = absurd (omega (arith, lt))
in_range (x ∷ xs) zero d e lt = refl
in_range (x ∷ xs) (suc i) d e lt = in_range xs i d e (omega (arith, lt))

-- what stands at a place of the rows, by another default
pub row_is : (rows : List ShortRow) (at : ℕ) (row : ShortRow) → at < length rows → row ≡ get_or rows at row → row ≡ row_at rows at
row_is rows at row lt is = is ∙ in_range rows at row no_row lt

pub no_page : (n i : ℕ) → slice_index (replicate n 0) i ≡ 0
no_page zero i = refl
no_page (suc n) zero = refl
no_page (suc n) (suc i) = no_page n i

pub none_noted : (p : ℕ) → has_page (replicate 257 0) p ≡ false
none_noted p = ap (λ n. has_bit n (p % 64)) (no_page 257 (p / 64)) ∙ none_of_zero (p % 64)

-- a row of no pages more
pushed_at : (rows : List ShortRow) (row : ShortRow) (at p : ℕ) → row.pages ≡ replicate 257 0 → has_page (row_at (rows ++ row ∷ []) at).pages p ≡ true
    → (at < length rows) × (row_at (rows ++ row ∷ []) at ≡ row_at rows at)
pushed_at [] row zero p none here = absurd (true≢false (sym here ∙ ap (λ ws. has_page ws p) none ∙ none_noted p))
pushed_at [] row (suc at) p none here = absurd (true≢false (sym here ∙ none_noted p))
pushed_at (r ∷ rows) row zero p none here = (omega arith, refl)
pushed_at (r ∷ rows) row (suc at) p none here = let rest = pushed_at rows row at p none here in (omega (arith, rest.0), rest.1)

-- The pages of the rows are those that they were after a row of none.
pub row_pushed : (rows more : List ShortRow) (row : ShortRow) → more ≡ rows ++ row ∷ [] → row.pages ≡ replicate 257 0 → (at p : ℕ)
    → has_page (row_at more at).pages p ≡ true → (at < length rows) × (row_at more at ≡ row_at rows at)
row_pushed rows more row is none at p here =
    let old = pushed_at rows row at p none (sym (ap (λ rs. has_page (row_at rs at).pages p) is) ∙ here) in (old.0, ap (λ rs. row_at rs at) is ∙ old.1)

pub note_pushed : (old new : ShortPages) (row : ShortRow) → new.rows.items ≡ old.rows.items ++ row ∷ [] → row.pages ≡ replicate 257 0 → (g a p : ℕ)
    → HasNote new g a p → HasNote old g a p
note_pushed old new row is none g a p note =
    let at = row_pushed old.rows.items new.rows.items row is none note.at p note.here in
    search arith

-- the pages of a row after one was written
pub row_there : (rows : List ShortRow) (at : ℕ) (row : ShortRow) → at < length rows → (i p : ℕ) → has_page (row_at (set rows at row) i).pages p ≡ true
    → (has_page row.pages p ≡ true) × (i ≡ at) ⊎ (has_page (row_at rows i).pages p ≡ true) × (i ≢ at)
row_there rows at row lt i p here = search (arith, cases_eq, get_or-set_same, get_or-set_other)

-- ---- a page comes, or goes
module _ (words read : List ℕ) (same : read ≡ words) (page n p : ℕ) (within : page / 64 < length words) where
  -- a page vector with the page more
  pub page_with : (p / 64 ≡ page / 64 → is_in_word n p ≡ ((page == p) || is_in_word (get_or read (page / 64) 0) p))
      → has_page (set words (page / 64) n) p ≡ ((page == p) || has_page words p)
  page_with so = let now = λ (e : p / 64 ≡ page / 64). so e ∙ ap (λ ws. (page == p) || is_in_word (get_or ws (page / 64) 0) p) same in
      search (arith, cases_eq, get_or-set_same, get_or-set_other, ne_eqb, now)

  -- and without it
  pub page_without : (p / 64 ≡ page / 64 → is_in_word n p ≡ (not (page == p) && is_in_word (get_or read (page / 64) 0) p))
      → has_page (set words (page / 64) n) p ≡ true → (p ≢ page) × (has_page words p ≡ true)
  page_without so here =
      search (arith, cases_eq, get_or-set_same, get_or-set_other, ne_eqb, and_parts, true≢false, eq-eqb, not-true)

-- ---- what is noted
pub none_there : {A : Type 0} (B : ℕ → Type 0) (o : Option ℕ) → MatchOption o A B → is_some o ≡ false → A
none_there B o match given = search (arith, true≢false)

-- A page with a free grain and without such a run of free ones is short.
pub noted_short : (pages : ℕ) (words : PagedWords) (grains align page : ℕ) (free : Mask4) → (1 ≤ page) × (page ≤ pages)
    → ((g : ℕ) → g < 256 → is_set free g ≡ free_by (value_in words) page g) → HasMember free → HasNoPlace free grains align 256
    → IsShortPage pages words grains align page
noted_short pages words grains align page free of same member none = search (arith, true≢false)
