-- WHAT A PASS READS, where no other actor makes a step, and what it leaves: steps on other pages leave a page's words and its bits of the page vectors, looks change no word,
-- and before grains are taken the words of a page are those that were looked at.
use Rattle.pas_same_text.proofs.{StepMarks.kept_over, GivenBack.{each_at, each_all}, SearchedPages.{find_first, find_none}, FreeGrains.nobody_keeps}
use Rattle.pas_same_text.proofs.{SeatedActs.stamps_told, Common.{false≢true, cases_eq, false_from_ne_true, has_bit, Mask4, page_bit-set, page_bit-clear}}
use Rattle.pas_same_text.proofs.Common.{full_bit, grain_of, number_of, deed_word_of, IsDirectoryOf, IsValid, IsPage, Directory, Outcome, Word, Profile, Event}
use Rattle.pas_same_text.proofs.Common.{made, triples, IsReturn, OnlyReturns, Always, all_ones, Whole, word_after, Legal, looking, Only, LookFree, Kinds, apart}
use Rattle.pas_same_text.proofs.Common.{LookDeed, Taking, Putting, Stamping, Made, Step, Deed, Back, Take, Give, TakeRight, Offer, Park, Unpark, Stamp, Hint}
use Rattle.pas_same_text.proofs.Common.{Unback, Unhint, only_both, only_within, always_both, always_map, empty_bit, eligible_bit, IsUsableFree, looked}
use Rattle.pas_same_text.proofs.Common.{backed_of, offered_at_rest, right_in_one_place, looks_until, looks, word_take, takes, ones, Used, until_only}
use Rattle.pas_same_text.proofs.Common.{leave_returns, return_returns, looks_only, used_at, TrySteps, takes_until, first_looks, EndsWithout, ExamineSteps}
use Rattle.pas_same_text.proofs.Common.{taken_on, looks_same, Progress, World, HasSame, IsBetween, IsSame, AreEndsStamped, is_free, are_free, is_guarded}
use Rattle.pas_same_text.proofs.Common.{is_kept, outcome_backed, outcome_of, deed_word_of-positive, read-deed_word_of, directory_from_profile}
use Rattle.pas_same_text.proofs.{Common.{same_from_deed_word, backed_in, epoch_in, word_of_backed, IsEmptyBacked}, RestingPages.{free_at, backed_unguarded}}
use Rattle.pas_same_text.{proofs.RestingPages.{clear_of, bit_tells}, specs.Passes.{used_word, free_bits}}
use Rattle.pas_steps.{specs.{declared.step.Step.TheVariants.{End, EndSized, Put}, Kinds.{LookBacked, Claiming}}, proofs.Bits.all_set}
use Rattle.std.proofs.Common.{arith, ◌≡◌, ℕ, ◌/◌, ◌%◌, ◌==◌, bit_and, Bool, true, false, if◌then◌else◌, List, [], ◌∷◌, ◌++◌, Option, None, Some, slice_index}
use Rattle.std.proofs.Common.{inl, inr, refl, ap, sym, ◌∙◌, subst, w64, ◌≢◌, zero, suc, ◌<◌, ◌≤◌, true≢false, ne_eqb, ◌+◌, ◌-◌, ◌*◌, ◌^◌, not, nat_lt, eq-eqb}
use Rattle.std.{proofs.{Common.{lt-ltb, le-ltb}, lemmas.Nat.mod-pow-add}, specs.Int.bit_at}
use Rattle.pas_core.proofs.Lives.{words_fit}
use Rattle.pas_rights.{specs.{Looks.AreUsed, Puts.PutsBelow}, proofs.Orders.each_always}
use Rattle.pas_scavenger.specs.{Puttings.BackSteps, Pages.AsksSteps}
use Rattle.pas_profile.proofs.Sizes.{usable_grains_ge}

-- ---- on which page a step works
-- the step may change a word of the page, or its bit of a page vector
abbrev pub is_on : ℕ → Step → Bool
is_on page (Deed q d) = q == page
is_on page (Back q) = q == page
is_on page (Take q word mask) = q == page
is_on page (Put q word mask) = q == page
is_on page (Give block) = grain_of block.name / 256 == page
is_on page (End name guess) = grain_of name / 256 == page
is_on page (EndSized name room) = grain_of name / 256 == page
is_on page (TakeRight q d) = q == page
is_on page (Offer q d) = q == page
is_on page (Park q) = q == page
is_on page (Unpark q) = q == page
is_on page (Stamp q) = q == page
is_on page (Hint q) = q == page
is_on page (Unback q) = q == page
is_on page (Unhint q) = q == page
is_on page s = false

-- none of the steps may
abbrev pub Spares : ℕ → List Made → Type 0
Spares page = Always (λ m before. is_on page m.step ≡ false)

-- ---- what they leave
-- the words of the page, and its offers, are those of the earlier list
pub record AreWordsKept (page : ℕ) (l l' : Whole) : Type 0 where
  pub free : (word : ℕ) → word_after l' (Word.Free page word) ≡ word_after l (Word.Free page word)
  pub backed : word_after l' (Word.Backed page) ≡ word_after l (Word.Backed page)
  pub stamp : word_after l' (Word.Stamp page) ≡ word_after l (Word.Stamp page)
  pub deed : word_after l' (Word.Deed page) ≡ word_after l (Word.Deed page)
  pub offer : (number : ℕ) → eligible_bit l' number page ≡ eligible_bit l number page

-- .. and so is its hint
pub record IsSpared (page : ℕ) (l l' : Whole) : Type 0 where
  pub words : AreWordsKept page l l'
  pub hint : empty_bit l' page ≡ empty_bit l page

-- THE PAGE is as it was: of each word and bit by cases of the step
pub words_stay : (page k : ℕ) (xs : List Made) (l : Whole) → Spares page xs → IsSpared page l (triples k xs ++ l)
words_stay page k [] l spares = record { words = record { free = λ word. refl; backed = refl; stamp = refl; deed = refl; offer = λ number. refl }; hint = refl }
words_stay page k (m ∷ xs) l spares =
    let rest = words_stay page k xs l spares.1 in record {
      words = search (arith, looked, page_bit-clear, page_bit-set);
      hint = grind (arith, rest.hint, looked, page_bit-clear, page_bit-set);
    }

-- ==== WHICH STEPS of a pass spare a page: those by which another page is tried
pub spare_both : (page : ℕ) (ys xs : List Made) → Spares page ys → Spares page xs → Spares page (ys ++ xs)
spare_both page ys xs first rest = always_both _ (λ m before. is_on page m.step ≡ false) ys xs (λ m before h. h) first rest

looks_spare : (page : ℕ) (xs : List Made) → Only looking xs → Spares page xs
looks_spare page xs = always_map _ (λ m before. is_on page m.step ≡ false) xs (λ m before is. search (arith, false≢true))

-- the first steps of an examination are looks
pub first_only : (page b : ℕ) (used : Option Used) → Only looking (first_looks page b used)
first_only page b used = only_both looking _ _ (only_within (LookFree ∷ []) looking (looks_until page used) refl (until_only page used)) (refl, tt)

-- the page that is tried is q
module _ (page q : ℕ) (other : (q == page) ≡ false) where
  -- a look is on no page, and any other of these steps on q
  return_other : (s : Step) → IsReturn q s → is_on page s ≡ false
  return_other s r = search arith

  returns_spare : (xs : List Made) → OnlyReturns q xs → Spares page xs
  returns_spare xs = always_map (λ m before. IsReturn q m.step) (λ m before. is_on page m.step ≡ false) xs (λ m before is. return_other m.step is)

  puts_spare : (grains : Mask4) (steps : List Made) → PutsBelow q grains 4 steps → Spares page steps
  puts_spare grains = search (arith, slice_index)

  back_spares : (d : Directory) (grains : Mask4) (steps : List Made) → BackSteps q d grains steps → Spares page steps
  back_spares d grains steps h = rw h.steps_are (spare_both page h.left (h.after ++ h.puts) (returns_spare h.left (leave_returns q d h.left h.leaves))
      (spare_both page h.after h.puts (returns_spare h.after (return_returns q d h.after h.returns)) (puts_spare grains h.puts h.order)))

  takes_spare : (n : ℕ) → Spares page (takes q ones ones n)
  takes_spare n = each_always (λ m. is_on page m.step ≡ false) (λ word. word_take q word (ones word) (ones word)) (λ word. (other, tt)) n

  asks_spare : (d : Directory) (got : Bool) (steps : List Made) → AsksSteps q d got steps → Spares page steps
  asks_spare d got steps h = subst (Spares page) (sym h.steps_are) (other, (refl, looks_spare page (first_looks q h.backed None) (first_only q h.backed None)))

  without_spares : (outcome : Outcome) (steps : List Made) → EndsWithout q outcome steps → Spares page steps
  without_spares Outcome.Bare steps h = subst (Spares page) (sym h) (refl, tt)
  without_spares (Outcome.InUse word value) steps h = subst (Spares page) (sym h.3) (looks_spare page (first_looks q h.0 (Some (used_at word value))) (first_only q h.0 (Some (used_at word value))))
  without_spares Outcome.NotOffered steps h = subst (Spares page) (sym h.4) (other, asks_spare h.0 false h.2 h.3)
  without_spares outcome steps h = absurd h

  -- the page is judged by looks, and by steps on itself
  examine_spares : (age epoch : ℕ) (outcome : Outcome) (steps : List Made) → ExamineSteps age epoch q outcome steps → Spares page steps
  examine_spares age epoch outcome steps (inl h) = without_spares outcome steps h
  examine_spares age epoch outcome steps (inr h) =
      let t = h.takes in
      let rest : List Made = takes_until q t.used ++ h.asked in
      rw (taken_on age epoch q outcome steps h) (spare_both page t.back (t.after ++ rest) (back_spares h.directory t.grains t.back t.puts)
      (spare_both page t.after rest (search arith) (spare_both page (takes_until q t.used) h.asked (search (arith, takes_spare))
      (asks_spare h.directory true h.asked h.asks))))

  -- The steps of a pass that try one page spare every other page.
  pub try_spares : (age epoch : ℕ) (o : Option Outcome) (steps : List Made) → TrySteps age epoch q o steps → Spares page steps
  try_spares age epoch None steps h = subst (Spares page) (sym h.2) (other, tt)
  try_spares age epoch (Some outcome) steps h = rw h.4 (spare_both page h.2 (made (Unhint q) h.0 ∷ []) (examine_spares age epoch outcome h.2 h.3) (other, tt))

-- ==== LOOKS change no word
-- where none takes or puts grains, free words stay
pub frees_stay : (ks : Kinds) → apart ks (Taking ∷ Putting ∷ []) ≡ true → (k : ℕ) (xs : List Made) (l : Whole) (page word : ℕ) → Only ks xs
    → word_after (triples k xs ++ l) (Word.Free page word) ≡ word_after l (Word.Free page word)
frees_stay ks w k xs l page word = search (arith, kept_over, true≢false)

-- where none stamps a page, stamps stay
pub stamps_stay : (ks : Kinds) → apart ks (Stamping ∷ []) ≡ true → (k : ℕ) (xs : List Made) (l : Whole) (page : ℕ) → Only ks xs
    → word_after (triples k xs ++ l) (Word.Stamp page) ≡ word_after l (Word.Stamp page)
stamps_stay ks w k xs l page = search (arith, kept_over, true≢false)

-- ---- looks at free words
looks_looking : (page : ℕ) (answers : ℕ → ℕ) (n : ℕ) → Only looking (looks page answers n)
looks_looking page answers n = only_within (LookFree ∷ []) looking (looks page answers n) refl (looks_only page answers n)

-- what was read of a free word is what it is
pub looks_told : (f : Profile) (k : ℕ) (l : Whole) (page : ℕ) (answers : ℕ → ℕ) (n word : ℕ) (xs : List Made) → word < n → Only looking xs
    → Legal f (triples k (looks page answers n ++ xs) ++ l) → word_after l (Word.Free page word) ≡ answers word
looks_told f k l page answers zero word xs lt only legal = absurd (omega (arith, lt))
looks_told f k l page answers (suc n) word xs lt only legal = elim (cases_eq word n) [
  | inl e ↦
      search (arith, looks_same, only_both, looks_looking)
  | inr ne ↦ looks_told f k l page answers n word xs (omega (arith, lt, ne)) only legal.1
]

-- ---- A PAGE IS ASKED FOR: it is backed and all its grains are free, its deed is known, and it is offered or not
pub record IsAsked (f : Profile) (l : Whole) (page : ℕ) (d : Directory) (got : Bool) : Type 0 where
  pub backed : word_after l (Word.Backed page) ≢ 0
  pub full : (word : ℕ) → word < 4 → word_after l (Word.Free page word) ≡ all_ones
  pub deed : word_after l (Word.Deed page) ≡ deed_word_of d
  pub of_profile : IsDirectoryOf f d
  pub offered : eligible_bit l (number_of d) page ≡ got

-- these steps change no word but the page's bit of its directory's vector
abbrev pub asking : Kinds
asking = Claiming ∷ LookDeed ∷ LookFree ∷ LookBacked ∷ []

-- The looks that ask about a page, and the claim of it, are of the asking kinds alone.
pub asks_only : (page : ℕ) (d : Directory) (got : Bool) (steps : List Made) → AsksSteps page d got steps → Only asking steps
asks_only page d got steps h = search (arith, only_both, only_within, until_only)

-- What the asking steps of a pass read of a page was so of its words before them.
pub asks_told : (f : Profile) (k : ℕ) (l : Whole) (page : ℕ) (d : Directory) (got : Bool) (steps : List Made) → AsksSteps page d got steps
    → Legal f (triples k steps ++ l) → IsAsked f l page d got
asks_told f k l page d got steps h legal = search (arith, looks_told, looks_same, first_only)

-- ---- THE TAKES: where each free word was all ones, each take reads it so
-- takes of lower words leave a free word
lower_takes : (k : ℕ) (l : Whole) (page n word : ℕ) (xs : List Made) → n ≤ word
    → word_after (triples k (takes page ones ones n ++ xs) ++ l) (Word.Free page word) ≡ word_after (triples k xs ++ l) (Word.Free page word)
lower_takes k l page zero word xs le = refl
lower_takes k l page (suc n) word xs le = search (arith, bit_and, w64, ne_eqb, lower_takes k l page n word xs (omega (arith, le)))

-- Takes of a page whose free words are all ones meet no used word.
pub none_used : (f : Profile) (k : ℕ) (l : Whole) (page : ℕ) (used : Option Used) (xs : List Made) → AreUsed used
    → ((word : ℕ) → word < 4 → word_after (triples k xs ++ l) (Word.Free page word) ≡ all_ones)
    → Legal f (triples k (takes_until page used ++ xs) ++ l) → used ≡ None
none_used f k l page used xs are full legal = search (arith, lower_takes)

-- ==== FREE WORDS OF A PAGE in the text, whenever all actors are at rest: the lowest word with a grain that isn't free, and the free grains of a word as a number, are those of the replay.
-- ---- a number by its lowest bits
-- the free grains of a word are the bits of this number
bits_worth : (w : World) (page word value : ℕ) → ((b : ℕ) → b < 64 → is_free w page (64 * word + b) ≡ has_bit value b) → (n : ℕ) → n ≤ 64
    → free_bits w page word n ≡ value % 2 ^ n
unfolding free_bits
bits_worth w page word value agree zero le = omega arith
bits_worth w page word value agree (suc n) le =
    let before : free_bits w page word n ≡ value % 2 ^ n = bits_worth w page word value agree n (omega (arith, le)) in
    let here : (if is_free w page (64 * word + n) then 2 ^ n else 0) ≡ bit_at value n * 2 ^ n =
    ap (λ (t : Bool). if t then 2 ^ n else 0) (agree n (omega (arith, le)))
    ∙ (let it : (if (bit_at value n) == 1 then (2 ^ n) else 0) ≡ (bit_at value n) * (2 ^ n) = search arith in it) in
    let next : suc n ≡ 1 + n = omega arith in
    ap (λ (x : ℕ). x + (if is_free w page (64 * word + n) then 2 ^ n else 0)) before
    ∙ (ap (λ (x : ℕ). value % 2 ^ n + x) here
    ∙ omega (arith, mod-pow-add value 1 n, ap (λ (x : ℕ). value % 2 ^ x) next))

module _ (f : Profile) (p : Progress) (w : World) (valid : IsValid f) (between : IsBetween f p) (same : HasSame f p w) where
  abbrev free_word : ℕ → ℕ → ℕ
  free_word page word = word_after p.list (Word.Free page word)

  bit_is : (page word b : ℕ) → is_guarded w page ≡ false → word < 4 → b < 64 → is_free w page (64 * word + b) ≡ has_bit (free_word page word) b
  bit_is page word b none few small =
      let at_word : (64 * word + b) / 64 ≡ word = omega (arith, small) in
      let at_bit : (64 * word + b) % 64 ≡ b = omega (arith, small) in
      cc (free_at f p w valid between same page (64 * word + b) (omega (arith, few, small)) none)

  -- all grains of a word are free where it is all ones
  full_free : (page word : ℕ) → is_guarded w page ≡ false → word < 4 → free_word page word ≡ all_ones → are_free w page (64 * word) 64 ≡ true
  full_free page word none few full = each_all 64 (64 * word) (is_free w page) (λ b low high.
      let whole : 64 * word + (b - 64 * word) ≡ b = omega (arith, low) in
      let small : b - 64 * word < 64 = omega (arith, low, high) in
      ap (is_free w page) (sym whole) ∙ (bit_is page word _ none few small ∙ (ap (λ (n : ℕ). has_bit n (b - 64 * word)) full ∙ full_bit (b - 64 * word) small)))

  -- .. and not all where it isn't
  used_free : (page word : ℕ) → is_guarded w page ≡ false → word < 4 → free_word page word ≢ all_ones → are_free w page (64 * word) 64 ≡ false
  used_free page word none few used = false_from_ne_true (are_free w page (64 * word) 64) (λ all.
      used (all_set (free_word page word) (words_fit f p.list valid between.legal (Word.Free page word))
      (λ b small. sym (bit_is page word b none few small) ∙ each_at 64 (64 * word) (64 * word + b) (is_free w page) all (omega arith) (omega (arith, small)))))

  -- The first free word that isn't all ones is the used word that the text finds.
  used_first : (page word : ℕ) → is_guarded w page ≡ false → word < 4 → ((v : ℕ) → v < word → free_word page v ≡ all_ones) → free_word page word ≢ all_ones
      → used_word w page ≡ Some word
  used_first page word none few full used = find_first _ 4 0 word (omega arith) (omega (arith, few)) (ap not (used_free page word none few used))
      (λ v low lt. ap not (full_free page v none (omega (arith, lt, few)) (full v lt)))

  -- THE VALUE of a word
  value_is : (page word : ℕ) → is_guarded w page ≡ false → word < 4 → free_bits w page word 64 ≡ free_word page word
  value_is page word none few =
      let whole : free_word page word % 2 ^ 64 ≡ free_word page word = omega (arith, (words_fit f p.list valid between.legal (Word.Free page word))) in
      bits_worth w page word (free_word page word) (λ b small. bit_is page word b none few small) 64 (omega arith) ∙ whole

-- ==== THE OUTCOME OF A PAGE in the text, by the words of the replay.
-- the page was offered by a directory after this list
pub record WasOffered (f : Profile) (l : Whole) (page : ℕ) : Type 0 where
  pub directory : Directory
  pub of_profile : IsDirectoryOf f directory
  pub offered : eligible_bit l (number_of directory) page ≡ true

-- a page beside its outcome
abbrev pub pair : ℕ → Outcome → ℕ × Outcome
pair page outcome = (page, outcome)

-- the page stays hinted with this outcome
abbrev pub stays_hinted : Outcome → Bool
stays_hinted (Outcome.Young stamp) = true
stays_hinted Outcome.NotOffered = true
stays_hinted outcome = false

-- ---- a backed word is 0 or 1
was_backed : (b : Bool) (n : ℕ) → n ≡ word_of_backed b → n ≢ 0 → b ≡ true
was_backed b n is given = search arith

module _ (f : Profile) (p : Progress) (w : World) (valid : IsValid f) (between : IsBetween f p) (same : IsSame f p w) (stamped : AreEndsStamped p.list) where
  -- the words of the page show that it is backed; all its grains are free
  abbrev IsBacked : ℕ → Type 0
  IsBacked page = word_after p.list (Word.Backed page) ≢ 0

  abbrev IsFull : ℕ → Type 0
  IsFull page = (word : ℕ) → word < 4 → word_after p.list (Word.Free page word) ≡ all_ones

  -- A state of the text that is the replay's has its events, live blocks, caches and guards.
  pub has_same : HasSame f p w
  has_same = record { events = same.pages.events; live = same.pages.live; caches = same.caches; guards = same.guards }

  backed_is : (page : ℕ) → word_after p.list (Word.Backed page) ≡ word_of_backed (backed_in w.events page)
  backed_is page = backed_of f p.list between.legal page ∙ ap (λ (es : List Event). word_of_backed (backed_in es page)) (sym same.pages.events)

  stamp_is : (page : ℕ) → IsPage f page → word_after p.list (Word.Stamp page) ≡ epoch_in w.events page
  stamp_is page of = (stamps_told f p valid between stamped).stamp page of ∙ ap (λ (es : List Event). epoch_in es page) (sym same.pages.events)

  -- ---- a page without memory, and one with
  pub bare_outcome : (page : ℕ) → word_after p.list (Word.Backed page) ≡ 0 → outcome_of f w page ≡ Outcome.Bare
  bare_outcome page none = search (arith, backed_is)

  backed_outcome : (page : ℕ) (o : Option ℕ) → IsBacked page → used_word w page ≡ o → outcome_of f w page ≡ outcome_backed f w page o
  backed_outcome page o some used = search (arith, was_backed, backed_is)

  -- no guard has a backed page
  unguarded : (page : ℕ) → IsBacked page → is_guarded w page ≡ false
  unguarded page some = backed_unguarded f p w valid between has_same page
      (cc (was_backed (backed_in w.events page) (word_after p.list (Word.Backed page)) (backed_is page) some))

  -- A page that is backed and whose free words are all ones is backed and empty.
  pub empty_backed : (page : ℕ) → IsBacked page → IsFull page → IsEmptyBacked p.list page
  empty_backed page some full = search (arith, backed_is, was_backed, full_bit)

  -- ---- in use
  pub used_outcome : (page word : ℕ) → word < 4 → IsBacked page → ((v : ℕ) → v < word → word_after p.list (Word.Free page v) ≡ all_ones)
      → word_after p.list (Word.Free page word) ≢ all_ones
      → outcome_of f w page ≡ Outcome.InUse word (word_after p.list (Word.Free page word))
  used_outcome page word few some full used =
      grind (arith, backed_outcome, used_first, has_same, unguarded, value_is)

  -- ---- empty, and kept by a cache: it has room, and nobody offers it
  kept_page : (page : ℕ) (d : Directory) → IsDirectoryOf f d → word_after p.list (Word.Deed page) ≡ deed_word_of d → IsFull page
      → eligible_bit p.list (number_of d) page ≡ false → is_kept w page ≡ true
  kept_page page d of deed full none = by_kept (is_kept w page) refl
    where
      free_grain : IsUsableFree p.list page 0 0
      free_grain = search (arith, full_bit, read-deed_word_of, directory_from_profile, usable_grains_ge, lt-ltb)

      by_kept : (t : Bool) → is_kept w page ≡ t → t ≡ true
      by_kept true e = refl
      by_kept false e =
          let o = offered_at_rest f p.list between.legal (clear_of f p w valid between has_same) page 0 0 (omega arith)
          (λ bare. deed_word_of-positive d (sym deed ∙ bare)) free_grain (nobody_keeps f p w valid between has_same page e) in
          absurd (true≢false (sym (o.offered (number_of d) ∙ (ap (λ (x : Directory). number_of x == number_of d) (same_from_deed_word o.directory d o.of_profile.kind of.kind (sym o.deed ∙ deed)) ∙ eq-eqb (number_of d) (number_of d) refl)) ∙ none))

  empty_outcome : (page : ℕ) (kept : Bool) → IsBacked page → IsFull page → is_kept w page ≡ kept
      → outcome_of f w page
      ≡ (if kept then Outcome.NotOffered else (if nat_lt w.epoch (epoch_in w.events page + f.age) then Outcome.Young (epoch_in w.events page) else Outcome.Unbacked))
  empty_outcome page kept some full is =
      cc (backed_outcome page None some (find_none (λ word. not (are_free w page (64 * word) 64)) 4 0
      (λ word low high. cc (full_free f p w valid between has_same page word (unguarded page some) high (full word high)))))

  -- A page that is backed and empty, and not offered by its directory, has the outcome not offered in the text.
  pub kept_outcome : (page : ℕ) (d : Directory) → IsBacked page → IsDirectoryOf f d → word_after p.list (Word.Deed page) ≡ deed_word_of d → IsFull page
      → eligible_bit p.list (number_of d) page ≡ false → outcome_of f w page ≡ Outcome.NotOffered
  kept_outcome page d some of deed full none = empty_outcome page true some full (kept_page page d of deed full none)

  -- ---- empty and offered: by its stamp
  not_kept : (page : ℕ) (d : Directory) → IsDirectoryOf f d → eligible_bit p.list (number_of d) page ≡ true → is_kept w page ≡ false
  not_kept page d of offered = (bit_tells f p w valid between has_same page d of (right_in_one_place f p.list between.legal page) offered).1

  -- An offered empty page whose stamp is too recent for the epoch has the outcome young in the text.
  pub young_outcome : (page : ℕ) (d : Directory) → IsPage f page → IsBacked page → IsFull page → IsDirectoryOf f d
      → eligible_bit p.list (number_of d) page ≡ true
      → w.epoch < word_after p.list (Word.Stamp page) + f.age
      → outcome_of f w page ≡ Outcome.Young (word_after p.list (Word.Stamp page))
  young_outcome page d of some full of_profile offered young =
      let at : word_after p.list (Word.Stamp page) ≡ epoch_in w.events page = stamp_is page of in
      cc (empty_outcome page false some full (not_kept page d of_profile offered), lt-ltb w.epoch (epoch_in w.events page + f.age) (omega (arith, young, at)))

  -- An offered empty page whose stamp is old enough for the epoch has the outcome unbacked in the text.
  pub old_outcome : (page : ℕ) (d : Directory) → IsPage f page → IsBacked page → IsFull page → IsDirectoryOf f d → eligible_bit p.list (number_of d) page ≡ true
      → word_after p.list (Word.Stamp page) + f.age ≤ w.epoch → outcome_of f w page ≡ Outcome.Unbacked
  old_outcome page d of some full of_profile offered old =
      let at : word_after p.list (Word.Stamp page) ≡ epoch_in w.events page = stamp_is page of in
      cc (empty_outcome page false some full (not_kept page d of_profile offered), le-ltb w.epoch (epoch_in w.events page + f.age) (omega (arith, old, at)))
