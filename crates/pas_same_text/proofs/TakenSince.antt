-- THE SLOTS that a search took of a shared page are the lowest free one and those behind it without a break, as it was before the search.
use Rattle.std.proofs.Common.{◌||◌, ◌≡◌, ℕ, ◌+◌, ◌*◌, ◌/◌, ◌%◌, ◌<◌, List, ◌++◌, refl, ap, sym, ◌∙◌, arith, ◌≢◌, zero, suc, ◌≤◌, ◌==◌, Bool, true, false, ◌&&◌}
use Rattle.std.proofs.Common.{if◌then◌else◌, [], ◌∷◌, IsTrue, ◌↔◌, inl, inr, subst, append_assoc, true≢false, eq-eqb, eqb-true, drop, ne_eqb, lt-ltb}
use Rattle.pas_profile.specs.Classes.{usable_grains}
use Rattle.pas_search.{specs.Choices.TookChosen, proofs.LoneSteps.shown_same}
use Rattle.pas_partial.specs.Rows.{IsInRow, rows}
use Rattle.pas_segregated.specs.Takes.{slot_within, TookSlots, takes_after, takes_since}
use Rattle.pas_same_text.proofs.Common.{free_same, or-false, has_bit, is_set, Mask4, class_grains, IsSlotStart, Profile, Word, triples, free_word_at, Readings}
use Rattle.pas_same_text.proofs.Common.{made, target, kind_of, is_in, Once, Always, Whole, word_after, Legal, part, Made, Step, part_of_own, free_of_page}
use Rattle.pas_same_text.proofs.Common.{LendsNone, lends_none, AreSearch, searching, IsReturnOf, ReturnsDuly, KeepsMarks, IsFreeSlot, IsLowestRow, free_bit}
use Rattle.pas_same_text.proofs.Common.{false≢true, cases_eq, false_from_ne_true, none_of_zero, number_of, View, holds, has_right, Deed, Take, TakeRight, Offer}
use Rattle.pas_same_text.proofs.{Common.{Park, Unpark, spotted, takes, word_take, words}, Tests.{and_first, and_second}}
use Rattle.pas_steps.specs.{Allowed.Allowed, Effects.in_mask, Kinds.lending, Views.{Gets, Stays, grain_move, held_after, Way, Rests, ByDeed, FromOffer}}
use Rattle.pas_steps.specs.Views.{FromParked, ToParked, way, had_after}
use Rattle.pas_core.proofs.Rights.{is_with, Spot, Suits, IsSpotted, step_suits}

-- ---- the same readings show the same slots and rows
free_slot_as : (class : ℕ) (r fair : Readings) → ((b : ℕ) → b < 256 → r b ≡ fair b) → (s : ℕ) → IsFreeSlot class r s → IsFreeSlot class fair s
free_slot_as class r fair same s free = let end = slot_within class s free.0 in (free.0, λ b low high. sym (same b (omega (arith, end, high))) ∙ free.1 b low high)

row_as : (Good Fair : ℕ → Type 0) (first step n s : ℕ) → ((x : ℕ) → Good x → Fair x) → IsInRow Good first step n s → IsInRow Fair first step n s
row_as Good Fair first step n s fair row = (row.0, row.1, row.2, λ j le. fair (first + j * step) (row.3 j le))

module _ (f : Profile) (k : ℕ) (l : Whole) (class page : ℕ) (searched : List Made) (starts : Mask4) (legal : Legal f (triples k searched ++ l))
    (searches : AreSearch searched) (took : TookChosen (rows class) page searched starts) where
  -- what was read is what was free
  reading_is : (b : ℕ) → b < 256 → took.readings b ≡ free_of_page l page b
  reading_is b small = shown_same f k l page b took.readings small searched
      (record { legal = legal; lends_none = lends_none searching refl searched searches.kinds; returns = searches.returns }) (took.read (b / 64) (omega (arith, small)))

  -- What a search took of a shared page is the lowest row of slots by the grains free before the search.
  pub shared_row : IsLowestRow class (free_of_page l page) starts
  shared_row = let fair = free_of_page l page in
      let there = free_slot_as class took.readings fair reading_is in let back = free_slot_as class fair took.readings (λ b small. sym (reading_is b small)) in
      record {
        first = took.chosen.first;
        free = there took.chosen.first took.chosen.free;
        lowest = λ s lt free. took.chosen.lowest s lt (back s free);
        are = λ s. (
          λ set. row_as (IsFreeSlot class took.readings) (IsFreeSlot class fair) took.chosen.first (class_grains class) 4 s there ((took.chosen.are s).0 set),
          λ here. (took.chosen.are s).1 (row_as (IsFreeSlot class fair) (IsFreeSlot class took.readings) took.chosen.first (class_grains class) 4 s back here),
        );
      }

-- ==== WHAT A SEARCH TOOK of a page that it keeps: since it got the page's right, if it holds any of its grains. So its takes since then read just the grains as free that
-- were free before the search.
-- ---- the right of a page that is neither offered nor parked stays
module _ (page : ℕ) where
  kept_right : (x : Way) (t had : Bool) → (t ≡ true → ⊥) → had ≡ true → had_after (if t then x else Rests) had ≡ true
  kept_right x t had never has = search arith

  got_right : (x : Way) (t had : Bool) → had_after x had ≡ true → had ≡ true → had_after (if t then x else Rests) had ≡ true
  got_right x t had gets has = search arith

  never_left : (q : ℕ) (s : Step) → (s ≡ Unpark page → ⊥) → IsReturnOf q s → (IsReturnOf page s → s ≡ Unpark page) → (q == page) ≡ true → ⊥
  never_left q s other r marks same = other (marks (subst (λ (x : ℕ). IsReturnOf x s) (eqb-true q page same) r))

  right_stays : (s : Step) (a : ℕ) (had : Bool) → (IsReturnOf page s → s ≡ Unpark page) → had ≡ true → had_after (way s a page) had ≡ true
  right_stays (Deed q d) a had marks has = got_right ByDeed ((q == page) && (a == 0)) had refl has
  right_stays (TakeRight q d) a had marks has = got_right (FromOffer (number_of d)) ((q == page) && has_bit a (page % 64)) had refl has
  right_stays (Offer q d) a had marks has = kept_right _ (q == page) had (never_left q (Offer q d) (λ same. let bad = same in cc) (IsReturnOf.Offers d) marks) has
  right_stays (Park q) a had marks has = kept_right ToParked (q == page) had (never_left q (Park q) (λ same. let bad = same in cc) IsReturnOf.Parks marks) has
  right_stays (Unpark q) a had marks has = got_right FromParked ((q == page) && has_bit a (page % 64)) had refl has
  right_stays s a had marks has = has

  -- who had it once has it
  pub right_kept : (xs : List Made) → Always (KeepsMarks page) xs → Once (λ m before. has_right before page ≡ true) xs → has_right xs page ≡ true
  right_kept [] marks h = absurd h
  right_kept (m ∷ xs) marks (inl h) = right_stays m.step m.answer (has_right xs page) (λ r. (marks.0 r).0) h
  right_kept (m ∷ xs) marks (inr h) = right_stays m.step m.answer (has_right xs page) (λ r. (marks.0 r).0) (right_kept xs marks.1 h)

-- ---- one step: an actor that holds a grain of the page took it since it got the right, and has the right
module _ (f : Profile) (k page g : ℕ) (of : g / 256 ≡ page) (v ts before : List Made) (o : Spot) (spot : has_right v page ≡ is_with k o) where
  -- what is so of the steps so far, if they hold the grain
  abbrev IsTakenSo : Type 0
  IsTakenSo = (has_right v page ≡ true) × (holds ts g ≡ true)

  abbrev IsTakenAfter : Step → ℕ → Type 0
  IsTakenAfter s a = (had_after (way s a page) (has_right v page) ≡ true) × (holds (takes_after page s a ts) g ≡ true)

  got_or_held : (x held : Bool) → (x ≡ false → held ≡ true) → held_after (if x then Gets else Stays) held ≡ true
  got_or_held x held h = search arith

  -- A grain that a take takes was taken so.
  took : (q word mask a : ℕ) → has_right v q ≡ true → (holds before g ≡ true → IsTakenSo) → (x : Bool) → (in_mask q word mask g && has_bit a (g % 64)) ≡ x
      → held_after (if x then Gets else Stays) (holds before g) ≡ true → IsTakenAfter (Take q word mask) a
  took q word mask a allowed was b is h = search (arith, and_first, eqb-true, and_second, true≢false, eq-eqb, got_or_held)

  listed_step : (s : Step) (a : ℕ) → is_in lending (kind_of s) ≡ false → (IsReturnOf page s → s ≡ Unpark page) → Allowed f v s → Suits k (way s a page) o
      → (holds before g ≡ true → IsTakenSo) → held_after (grain_move s a g) (holds before g) ≡ true → IsTakenAfter s a
  listed_step s a lends marks allowed suits was h = search (arith, right_stays, false≢true, true≢false)

-- ---- lists of takes
abbrev first_step : Step → List Made → Step
first_step s [] = s
first_step s (m ∷ ms) = m.step

abbrev first_answer : ℕ → List Made → ℕ
first_answer a [] = a
first_answer a (m ∷ ms) = m.answer

none_there : (ts : List Made) (m : Made) (rest : List Made) → [] ≡ ts ++ m ∷ rest → ⊥
none_there [] m rest is = cc
none_there (t ∷ ts) m rest is = cc

module _ (f : Profile) (k : ℕ) (l : Whole) (page g : ℕ) (of : g / 256 ≡ page) where
  abbrev own : View
  own = part k l

  taken_since : (xs : List Made) → Legal f (triples k xs ++ l) → LendsNone xs → Always (KeepsMarks page) xs → holds xs g ≡ true
      → (has_right (xs ++ own) page ≡ true) × (holds (takes_since page xs) g ≡ true)
  taken_since [] legal lends marks h = absurd (false≢true h)
  taken_since (m ∷ xs) legal lends marks h =
      let w : Whole = triples k xs ++ l in
      let at : IsSpotted w page = spotted f w legal.1 page in
      let view : part k w ≡ xs ++ own = part_of_own k xs l in
      listed_step f k page g of (xs ++ own) _ xs _ (ap (λ (v : View). has_right v page) (sym view) ∙ at.has k) m.step m.answer lends.0 (λ r. (marks.0 r).0)
      (subst (λ (v : View). Allowed f v m.step) view legal.0.allowed)
      (step_suits f w k m.step m.answer page at legal.0.allowed legal.0.answer_is) (taken_since xs legal.1 lends.1 marks.1) h

  -- ---- a take that stands there, with those before it
  module _ (word mask a : ℕ) (rest : List Made) where
    here_or_later : (C : Type 0) (s : Step) (b : ℕ) (since : List Made) → (s ≡ Take page word mask → b ≡ a → since ≡ rest → C)
        → ((ts : List Made) → since ≡ ts ++ made (Take page word mask) a ∷ rest → C)
        → (ts : List Made) → takes_after page s b since ≡ ts ++ made (Take page word mask) a ∷ rest → C
    here_or_later C (Deed q d) b since here later ts is = reset ((page == q) && (b == 0)) is
      where
        reset : (t : Bool) → (if t then [] else since) ≡ ts ++ made (Take page word mask) a ∷ rest → C
        reset true is = absurd (none_there ts (made (Take page word mask) a) rest is)
        reset false is = later ts is
    here_or_later C (TakeRight q d) b since here later ts is = reset ((page == q) && has_bit b (page % 64)) is
      where
        reset : (t : Bool) → (if t then [] else since) ≡ ts ++ made (Take page word mask) a ∷ rest → C
        reset true is = absurd (none_there ts (made (Take page word mask) a) rest is)
        reset false is = later ts is
    here_or_later C (Take q u m) b since here later ts is = listed (page == q) ts is
      where
        listed : (t : Bool) (ts : List Made) → (if t then made (Take q u m) b ∷ since else since) ≡ ts ++ made (Take page word mask) a ∷ rest → C
        listed true [] is = here (ap (first_step (Take q u m)) is) (ap (first_answer b) is) (ap (drop 1) is)
        listed true (t ∷ ts) is = later ts (ap (drop 1) is)
        listed false ts is = later ts is
    here_or_later C s b since here later ts is = later ts is

    -- it read a grain as free exactly where that was free before the search, if the takes before it didn't get it
    take_read : (xs : List Made) → Legal f (triples k xs ++ l) → LendsNone xs → Always ReturnsDuly xs → Always (KeepsMarks page) xs
        → Word.Free page word ≡ free_word_at g → holds rest g ≡ false
        → (ts : List Made) → takes_since page xs ≡ ts ++ made (Take page word mask) a ∷ rest → has_bit a (g % 64) ≡ free_bit l g
    take_read [] legal lends due marks at none ts is = absurd (none_there ts (made (Take page word mask) a) rest is)
    take_read (m ∷ xs) legal lends due marks at none ts is =
        here_or_later (has_bit a (g % 64) ≡ free_bit l g) m.step m.answer (takes_since page xs)
        (λ step answer since.
        let now = sym answer ∙ (legal.0.answer_is ∙ (ap (λ s. word_after (triples k xs ++ l) (target s)) step ∙ ap (word_after (triples k xs ++ l)) at)) in
        ap (λ (n : ℕ). has_bit n (g % 64)) now ∙ as_before since)
        (λ earlier later. take_read xs legal.1 lends.1 due.1 marks.1 at none earlier later) ts is
      where
        not_held : takes_since page xs ≡ rest → holds xs g ≡ false
        not_held since = false_from_ne_true (holds xs g) (λ h. false≢true (sym none ∙ (ap (λ (ms : List Made). holds ms g) (sym since) ∙ (taken_since xs legal.1 lends.1 marks.1 h).1)))

        as_before : takes_since page xs ≡ rest → free_bit (triples k xs ++ l) g ≡ free_bit l g
        as_before since =
            let bit : Bool = free_bit (triples k xs ++ l) g in
            sym (ap (λ (t : Bool). bit || t) (not_held since) ∙ or-false bit) ∙ free_same f k l g xs (record { legal = legal.1; lends_none = lends.1; returns = due.1 })

-- ---- takes of all free words
one_taken : (page word mask a : ℕ) (rest : List Made) → mask ≢ 0 → word_take page word mask a ++ rest ≡ made (Take page word mask) a ∷ rest
one_taken page word mask a rest some = ap (λ (t : Bool). (if t then [] else made (Take page word mask) a ∷ []) ++ rest) (ne_eqb mask 0 some)

-- a word of which some grain is asked for is taken, after those before it
takes_split : (page : ℕ) (masks answers : ℕ → ℕ) (n word : ℕ) → word < n → masks word ≢ 0
    → (ts : List Made) × (takes page masks answers n ≡ ts ++ made (Take page word (masks word)) (answers word) ∷ takes page masks answers word)
takes_split page masks answers zero word lt some = absurd (omega (arith, lt))
takes_split page masks answers (suc n) word lt some = elim (cases_eq n word) [
  | inl same ↦ search (arith, one_taken)
  | inr other ↦
      let before = takes_split page masks answers n word (omega (arith, lt, other)) some in
      let here : List Made = word_take page n (masks n) (answers n) in
      (here ++ before.0, ap (λ (ms : List Made). here ++ ms) before.1 ∙ sym (append_assoc here before.0 _))
]

takes_below : (page : ℕ) (masks answers : ℕ → ℕ) (n g : ℕ) → n ≤ g / 64 % 4 → holds (takes page masks answers n) g ≡ false
takes_below page masks answers zero g le = refl
takes_below page masks answers (suc n) g le = search (arith, ne_eqb, takes_below page masks answers n g (omega (arith, le)))

-- ---- THE SLOTS that a search took of an exclusive page are all that were free before it
module _ (f : Profile) (k : ℕ) (l : Whole) (class page : ℕ) (searched : List Made) (starts : Mask4) (legal : Legal f (triples k searched ++ l))
    (searches : AreSearch searched) (marks : Always (KeepsMarks page) searched) (took : TookSlots class page searched starts) where
  slot_answer : (s b : ℕ) → IsSlotStart class s → b < s + class_grains class → is_set took.answers b ≡ free_of_page l page b
  slot_answer s b slot high =
      let within = slot.within in let end = slot_within class s slot in
      let small : b < 256 = (omega (arith, end, high)) in
      let usable = lt-ltb b (usable_grains class) (omega (arith, within, high)) in let g : ℕ = page * 256 + b in
      let of : g / 256 ≡ page = omega (arith, small) in
      let at_word : g / 64 % 4 ≡ b / 64 = omega (arith, small) in
      let at_bit : b % 64 ≡ g % 64 = omega arith in
      let word = ap (λ (u : ℕ). Word.Free page u) (sym at_word) ∙ ap (λ (q : ℕ). Word.Free q (g / 64 % 4)) (sym of) in
      let some : words took.usable (b / 64) ≢ 0 =
      λ z. false≢true (sym (none_of_zero (b % 64)) ∙ (ap (λ (n : ℕ). has_bit n (b % 64)) (sym z) ∙ (took.usable_are b small ∙ usable))) in
      let split = takes_split page (words took.usable) (words took.answers) 4 (b / 64) (omega (arith, small)) some in
      let read : has_bit (words took.answers (b / 64)) (g % 64) ≡ free_bit l g =
      take_read f k l page g of (b / 64) _ _ _ searched legal (lends_none searching refl searched searches.kinds) searches.returns marks word
      (takes_below page (words took.usable) (words took.answers) (b / 64) g (omega (arith, at_word))) split.0 (took.takes ∙ split.1) in
      ap (has_bit (words took.answers (b / 64))) at_bit ∙ (read ∙ ap (has_bit (word_after l (free_word_at g))) (sym at_bit))

  -- What a search took of an exclusive page are its slots that were free before the search.
  pub exclusive_free : (s : ℕ) → IsTrue (is_set starts s) ↔ IsFreeSlot class (free_of_page l page) s
  exclusive_free s = grind (arith, slot_answer)
