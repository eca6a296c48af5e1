-- The words of a region that stand in memory page by page: at the opening, as more pages come, and after a write.
use Rattle.std.proofs.Common.{◌≡◌, ℕ, zero, suc, ◌+◌, ◌-◌, ◌*◌, ◌^◌, ◌<◌, ◌≤◌, Bool, true, false, if◌then◌else◌, List, [], ◌∷◌, ◌++◌, length, get_or, replicate}
use Rattle.std.proofs.{Common.{slice_index, slice_set, refl, ap, sym, ◌∙◌, arith, eq-eqb, get_or-set_same, get_or-set_other, vec_len}, Math.Nat.mul_comm}
use Rattle.std.proofs.lemmas.{Bool.and_from, List.get_or-replicate, Nat.{mul-add-lt, same_from_place}}
use Rattle.pas_profile.specs.{Profiles.{vector_words, IsWordIn}, Layouts.{opening, same_word, word_minor, word_major}, declared.word.Word.Word}
use Rattle.pas_profile.proofs.Places.{same_word-true}
use Rattle.pas_steps.specs.{Paged.{no_lives, opening_page, value_in}, States.{IsUnusedAbove, profile_of}, Keeping.kept_value, declared.state.Kept.Kept}
use Rattle.pas_steps.specs.declared.{state.State.State, paged.{PageWords.PageWords, PagedWords.PagedWords}}

-- ---- at the opening
zero_at : (n i : ℕ) → slice_index (replicate n 0) i ≡ 0
zero_at zero i = refl
zero_at (suc n) zero = refl
zero_at (suc n) (suc i) = zero_at n i

all_zero : (words : List ℕ) (n i : ℕ) → words ≡ replicate n 0 → slice_index words i ≡ 0
all_zero words n i e = ap (λ (ws : List ℕ). slice_index ws i) e ∙ zero_at n i

-- no page stands in memory yet
pub none_open : (words : PagedWords) (n v e : ℕ) → words.epoch ≡ 0 → words.pages.items ≡ [] → words.lives.items ≡ [] → words.deeds.items ≡ replicate n 0
    → words.parked.items ≡ replicate v 0
    → words.empty.items ≡ replicate v 0 → words.eligible.items ≡ replicate e 0 → (w : Word) → IsWordIn words.layout.pages words.layout.heaps w
    → value_in words w ≡ opening w
none_open words n v e epoch none no_life deeds parked empty eligible Word.Epoch of = epoch
none_open words n v e epoch none no_life deeds parked empty eligible (Word.Free p number) of =
    ap (λ (ws : List PageWords). slice_index (get_or ws (p - 1) opening_page).free number) none ∙ get_or-replicate 4 number (2 ^ 64 - 1) 0 of.2
none_open words n v e epoch none no_life deeds parked empty eligible (Word.Life p grain) of =
    ap (λ (ws : List (List ℕ)). slice_index (get_or ws (p - 1) no_lives) grain) no_life ∙ zero_at 256 grain
none_open words n v e epoch none no_life deeds parked empty eligible (Word.Deed p) of = all_zero words.deeds.items n (p - 1) deeds
none_open words n v e epoch none no_life deeds parked empty eligible (Word.Backed p) of = ap (λ ws. (get_or ws (p - 1) opening_page).backed) none
none_open words n v e epoch none no_life deeds parked empty eligible (Word.Stamp p) of = ap (λ ws. (get_or ws (p - 1) opening_page).stamp) none
none_open words n v e epoch none no_life deeds parked empty eligible (Word.Parked j) of = all_zero words.parked.items v j parked
none_open words n v e epoch none no_life deeds parked empty eligible (Word.Empty j) of = all_zero words.empty.items v j empty
none_open words n v e epoch none no_life deeds parked empty eligible (Word.Eligible d j) of = all_zero words.eligible.items e _ eligible

-- ---- as more pages come
past_all : {A : Type 0} (all : List A) (i : ℕ) (opening : A) → length all ≤ i → get_or all i opening ≡ opening
past_all [] i opening past = refl
past_all (a ∷ all) zero opening past = absurd (omega (arith, past))
past_all (a ∷ all) (suc i) opening past = past_all all i opening (omega (arith, past))

-- the words of a page that doesn't stand in memory
pub life_past : (words : PagedWords) (page grain : ℕ) → length words.pages.items ≤ page - 1 → value_in words (Word.Life page grain) ≡ 0
life_past words page grain past =
    let few : length words.lives.items ≤ page - 1 = omega (arith, past, words.with_lives, words.lives.ok.0, words.pages.ok.0) in
    ap (λ (lives : List ℕ). slice_index lives grain) (past_all words.lives.items (page - 1) no_lives few) ∙ zero_at 256 grain

one_more : {A : Type 0} (all : List A) (i : ℕ) (opening : A) → get_or (all ++ opening ∷ []) i opening ≡ get_or all i opening
one_more [] zero opening = refl
one_more [] (suc i) opening = refl
one_more (a ∷ all) zero opening = refl
one_more (a ∷ all) (suc i) opening = one_more all i opening

-- a page more that nobody used yet
pub opened_one : (old new : PagedWords) → new.layout ≡ old.layout → new.epoch ≡ old.epoch → new.pages.items ≡ old.pages.items ++ opening_page ∷ []
    → new.lives.items ≡ old.lives.items ++ no_lives ∷ []
    → new.deeds ≡ old.deeds → new.parked ≡ old.parked → new.empty ≡ old.empty → new.eligible ≡ old.eligible → (w : Word) → value_in new w ≡ value_in old w
opened_one old new layout epoch pages lives deeds parked empty eligible w =
    search (arith, one_more)

-- ---- after a write
-- of the value that the word has
pub rewritten : (words : PagedWords) (x w : Word) (n : ℕ) → value_in words x ≡ n → (same : Bool) → same_word x w ≡ same
    → value_in words w ≡ (if same then n else value_in words w)
rewritten words x w n is same e = search (arith, same_word-true)

-- of a word of a directory's page vector, which stands in a row with those of all directories
in_row : (row : List ℕ) (v heaps d j b i n : ℕ) → length row ≡ 23 * heaps * v → d < 23 * heaps → j < v → i < v → (same : Bool)
    → same_word (Word.Eligible d j) (Word.Eligible b i) ≡ same
    → slice_index (slice_set row (d * v + j) n) (b * v + i) ≡ (if same then n else slice_index row (b * v + i))
in_row row v heaps d j b i n sized few low low' true e =
    let same = same_word-true (Word.Eligible d j) (Word.Eligible b i) e in
    let major : j ≡ i = ap word_major same in
    ap (λ (z : ℕ × ℕ). slice_index (slice_set row (d * v + j) n) (z.0 * v + z.1)) (λ k. (sym (ap word_minor same) k, sym major k))
    ∙ get_or-set_same row (d * v + j) n 0 (omega (arith, sized, mul-add-lt d v j (23 * heaps) few low, mul_comm v (23 * heaps)))
in_row row v heaps d j b i n sized few low low' false e =
    get_or-set_other row (d * v + j) (b * v + i) n 0 (λ same.
    let at = same_from_place b i d j v low' low same in
    let major = eq-eqb j i (sym at.1) in
    let is : same_word (Word.Eligible d j) (Word.Eligible b i) ≡ true = search (arith, and_from, eq-eqb d b (sym at.0), major) in
    cc)

pub eligible_written : (old new : PagedWords) (d j n : ℕ) → IsWordIn old.layout.pages old.layout.heaps (Word.Eligible d j)
    → new.layout ≡ old.layout → new.epoch ≡ old.epoch → new.pages ≡ old.pages → new.lives ≡ old.lives → new.deeds ≡ old.deeds → new.parked ≡ old.parked
    → new.empty ≡ old.empty
    → new.eligible.items ≡ slice_set old.eligible.items (d * vector_words old.layout.pages + j) n
    → (w : Word) → IsWordIn old.layout.pages old.layout.heaps w → value_in new w ≡ (if same_word (Word.Eligible d j) w then n else value_in old w)
eligible_written old new d j n of layout epoch pages lives deeds parked empty eligible w of' = search (arith, in_row)

-- ---- a region at rest
-- nobody wrote to the words of a page that doesn't stand in memory
pub unused_paged : (state : State) (words : PagedWords) → state.words ≡ Kept.Paged words → IsUnusedAbove state (vec_len words.pages)
unused_paged state words is = record {
  lives = λ page grain past of small.
      ap (λ (k : Kept). kept_value k (Word.Life page grain)) is ∙ life_past words page grain (omega (arith, past, words.pages.ok.0));
  backed = search (arith, past_all);
}

-- there are no pages above all
pub unused_row : (state : State) → IsUnusedAbove state (profile_of state).pages
unused_row state = record { lives = λ page grain past of small. absurd (omega (arith, past, of)); backed = λ page past of. absurd (omega (arith, past, of)) }
