-- THE PAGES OF A PASS in order: it tries just the pages that were hinted when it began, upwards.
use Rattle.std.proofs.Common.{◌≡◌, ℕ, zero, suc, ◌+◌, ◌*◌, ◌/◌, ◌%◌, ◌<◌, ◌≤◌, Bool, true, false, if◌then◌else◌, List, [], ◌∷◌, ◌++◌, map, reverse}
use Rattle.std.proofs.Common.{append_assoc, append-nil, Option, inl, inr, refl, ap, sym, ◌∙◌, subst, arith, true≢false, ne_eqb, eq-eqb}
use Rattle.pas_same_text.proofs.Common.{cases_Bool, cases_eq, reverse_onto, filter-append, filter, has_bit, IsValid, Directory, Outcome, Profile, Word, made}
use Rattle.pas_same_text.proofs.Common.{triples, InTurn, Whole, Legal, Made, Look, Offer, triples_append, IsEmptyBacked, empty_bit, legal_earlier, TrySteps}
use Rattle.pas_same_text.proofs.Common.{outcomes_in, all_tried, numbers_from, Progress, World, outcome_of, IsSame, IsBetween, AreEndsStamped}
use Rattle.pas_same_text.proofs.{StepMarks.{OffersPage, once_parts}, PassTries.tried, PassOutcomes.{WasOffered, pair, stays_hinted, is_on, Spares, words_stay}}
use Rattle.pas_same_text.proofs.PassOutcomes.{spare_both, try_spares}
use Rattle.pas_steps.specs.InTurn.{numbers_below}
use Rattle.pas_scavenger.{specs.Passes.{Tried, TriedSteps, with_outcome, WordRead, pages_set, WordSteps}, proofs.Examinations.outcomes_append}

-- ---- the numbers below n that pass a test, the greatest first
abbrev pub falling : (ℕ → Bool) → ℕ → List ℕ
falling test zero = []
falling test (suc n) = if test n then n ∷ falling test n else falling test n

-- Of a falling list of numbers that pass a test, those from a bound on are left out where none of them passes.
pub falling_skips : (test : ℕ → Bool) (m n : ℕ) → m ≤ n → ((q : ℕ) → m ≤ q → q < n → test q ≡ false) → falling test n ≡ falling test m
falling_skips test m zero le none = let same : zero ≡ m = omega (arith, le) in ap (falling test) same
falling_skips test m (suc n) le none = elim (cases_eq m (suc n)) [
  | inl e ↦ ap (falling test) (sym e)
  | inr ne ↦
      let below : m ≤ n = omega (arith, le, ne) in
      ap (λ (t : Bool). if t then n ∷ falling test n else falling test n) (none n below (omega arith)) ∙ falling_skips test m n below (λ q low high. none q low (omega (arith, high)))
]

-- the last of some numbers that follow each other
numbers_last : (n from : ℕ) → numbers_from from (suc n) ≡ numbers_from from n ++ (from + n) ∷ []
numbers_last zero from = let same : from ≡ from + 0 = omega arith in ap (λ (x : ℕ). x ∷ []) same
numbers_last (suc n) from = search (arith, numbers_last n (from + 1))

-- upwards they are the numbers that are left of all
rising_at : (xs : List ℕ) (n m : ℕ) (t : Bool) → m ≡ n → reverse xs ++ (if t then m ∷ [] else []) ≡ reverse (if t then n ∷ xs else xs)
rising_at xs n m true e = ap (λ (x : ℕ). reverse xs ++ x ∷ []) e ∙ sym (reverse_onto xs n [])
rising_at xs n m false e = append-nil (reverse xs)

-- The numbers up to n that pass a test are the falling ones in reverse, where 0 doesn't pass.
pub rising : (test : ℕ → Bool) → test 0 ≡ false → (n : ℕ) → filter test (numbers_from 1 n) ≡ reverse (falling test (suc n))
rising test none zero = ap (λ (t : Bool). reverse (if t then 0 ∷ [] else [])) (sym none)
rising test none (suc n) =
    let next : 1 + n ≡ suc n = omega arith in
    ap (filter test) (numbers_last n 1)
    ∙ (filter-append test (numbers_from 1 n) ((1 + n) ∷ [])
    ∙ (ap (λ (xs : List ℕ). xs ++ filter test ((1 + n) ∷ [])) (rising test none n)
    ∙ (ap (λ (t : Bool). reverse (falling test (suc n)) ++ (if t then (1 + n) ∷ [] else [])) (ap test next) ∙ rising_at _ (suc n) (1 + n) (test (suc n)) next)))

-- THE PASS HAS COME past the pages below n by these steps, with these outcomes, the last one first: those that were hinted have the outcomes of the text, the
-- others were left alone. None of them is hinted but one whose outcome lets it be, which was backed and empty; and none was offered by the steps but one that
-- was offered before.
pub record IsPast (f : Profile) (w : World) (l : Whole) (n : ℕ) (steps : List Made) (found : List (ℕ × Outcome)) : Type 0 where
  pub found_are : found ≡ map (λ q. pair q (outcome_of f w q)) (falling (λ q. empty_bit l q) n)
  pub spared : (q : ℕ) → n ≤ q → Spares q steps
  pub bits : (q : ℕ) → q < n → (empty_bit l q ≡ true → stays_hinted (outcome_of f w q) ≡ false) → empty_bit (triples 0 steps ++ l) q ≡ false
  pub idle : (q : ℕ) → q < n → empty_bit l q ≡ true → stays_hinted (outcome_of f w q) ≡ true → IsEmptyBacked l q
  pub offers : (q : ℕ) → OffersPage q steps → WasOffered f l q

past_at : (f : Profile) (w : World) (l : Whole) (m n : ℕ) (steps : List Made) (found : List (ℕ × Outcome)) → m ≡ n → IsPast f w l m steps found
    → IsPast f w l n steps found
past_at f w l m n steps found e h = subst (λ (x : ℕ). IsPast f w l x steps found) e h

past_by : (f : Profile) (w : World) (l : Whole) (n : ℕ) (steps steps' : List Made) (found found' : List (ℕ × Outcome)) → steps ≡ steps' → found ≡ found'
    → IsPast f w l n steps found → IsPast f w l n steps' found'
past_by f w l n steps steps' found found' e g h = subst (λ (ms : List Made). IsPast f w l n ms found') e (subst (IsPast f w l n steps) g h)

-- steps that spare a page don't offer it
spared_offer : (q : ℕ) (xs : List Made) → Spares q xs → OffersPage q xs → ⊥
spared_offer q [] spares h = h
spared_offer q (m ∷ xs) spares (inl h) = true≢false (sym (ap (is_on q) h.1 ∙ eq-eqb q q refl) ∙ spares.0)
spared_offer q (m ∷ xs) spares (inr h) = spared_offer q xs spares.1 h

-- ---- lists of tries
first_outcome : (page : ℕ) (o : Option Outcome) (xs ys : List (ℕ × Outcome)) → with_outcome page o xs ++ ys ≡ with_outcome page o (xs ++ ys)
first_outcome page o xs ys = search arith

no_first : (x : ℕ) (xs : List ℕ) → x ∷ xs ≡ [] → ⊥
no_first x xs e = cc

-- the pages of a word up to its n-th bit, where that is so
pages_at : (word value n : ℕ) (t : Bool) → has_bit value n ≡ t
    → pages_set word value (suc n) ≡ (if t then (64 * word + n) ∷ pages_set word value n else pages_set word value n)
pages_at word value n t e = ap (λ (x : Bool). if x then (64 * word + n) ∷ pages_set word value n else pages_set word value n) e

module _ (f : Profile) (p : Progress) (w : World) (valid : IsValid f) (between : IsBetween f p) (same : IsSame f p w) (stamped : AreEndsStamped p.list)
    (epoch : ℕ) (now : epoch ≡ w.epoch) where
  abbrev hinted : ℕ → Bool
  hinted q = empty_bit p.list q

  abbrev told : ℕ → ℕ × Outcome
  told q = pair q (outcome_of f w q)

  -- ---- a page that wasn't hinted
  past_other : (n : ℕ) (steps : List Made) (found : List (ℕ × Outcome)) → hinted n ≡ false → IsPast f w p.list n steps found
      → IsPast f w p.list (suc n) steps found
  past_other n steps found none h = record {
    found_are = h.found_are ∙ ap (λ (t : Bool). map told (if t then n ∷ falling hinted n else falling hinted n)) (sym none);
    spared = λ q le. h.spared q (omega (arith, le));
    bits = λ q lt gone. elim (cases_eq q n) [
      | inl e ↦ ap (λ (x : ℕ). empty_bit (triples 0 steps ++ p.list) x) e ∙ ((words_stay n 0 steps p.list (h.spared n (omega arith))).hint ∙ none)
      | inr ne ↦ h.bits q (omega (arith, lt, ne)) gone
    ];
    idle = search (arith, true≢false);
    offers = h.offers;
  }

  -- ---- one that was
  past_tried : (n : ℕ) (o : Option Outcome) (piece steps : List Made) (found : List (ℕ × Outcome)) → hinted n ≡ true → TrySteps f.age epoch n o piece
      → Legal f (triples 0 (piece ++ steps) ++ p.list) → IsPast f w p.list n steps found → IsPast f w p.list (suc n) (piece ++ steps) (with_outcome n o found)
  past_tried n o piece steps found is tries legal h =
      let before : Whole = triples 0 steps ++ p.list in
      let onto = triples_append 0 piece steps p.list in
      let x = tried f p w valid between same stamped n epoch now is before (words_stay n 0 steps p.list (h.spared n (omega arith))) o piece tries (subst (Legal f) (sym onto) legal) in
      let beside : ((q : ℕ) → (n ≡ q → ⊥) → Spares q piece) = λ q ne. try_spares q n (ne_eqb n q ne) f.age epoch o piece tries in
      record {
        found_are = cc;
        spared = λ q le. spare_both q piece steps (beside q (λ e. absurd (omega (arith, e, le)))) (h.spared q (omega (arith, le)));
        bits = λ q lt gone. ap (λ (m : Whole). empty_bit m q) (sym onto) ∙ elim (cases_eq q n) [
          | inl e ↦ ap (λ (y : ℕ). empty_bit (triples 0 piece ++ before) y) e ∙ x.bit (ap (λ (y : ℕ). stays_hinted (outcome_of f w y)) (sym e) ∙ gone (ap (λ (y : ℕ). empty_bit p.list y) e ∙ is))
          | inr ne ↦ (words_stay q 0 piece before (beside q (λ e. ne (sym e)))).hint ∙ h.bits q (omega (arith, lt, ne)) gone
        ];
        idle = λ q lt bit stays. elim (cases_eq q n) [
          | inl e ↦ subst (IsEmptyBacked p.list) (sym e) (x.idle (ap (λ (y : ℕ). stays_hinted (outcome_of f w y)) (sym e) ∙ stays))
          | inr ne ↦ h.idle q (omega (arith, lt, ne)) bit stays
        ];
        offers = λ q offer. elim (once_parts (λ m. (d : Directory) × (m.step ≡ Offer q d)) piece steps offer) [
          | inl here ↦ elim (cases_eq q n) [
            | inl e ↦ subst (WasOffered f p.list) (sym e) (x.offers (subst (λ (y : ℕ). OffersPage y piece) e here))
            | inr ne ↦ absurd (spared_offer q piece (beside q (λ e. ne (sym e))) here)
          ]
          | inr earlier ↦ h.offers q earlier
        ];
      }

  -- ---- a look at a word
  -- a look is on no page, hints none and offers none
  past_look : (n : ℕ) (word value : ℕ) (steps : List Made) (found : List (ℕ × Outcome)) → IsPast f w p.list n steps found
      → IsPast f w p.list n (made (Look (Word.Empty word)) value ∷ steps) found
  past_look n word value steps found h = search arith

  -- ==== the pages of one word, below its n-th bit
  past_tries : (word value n : ℕ) (tries : List Tried) (steps base : List Made) (found : List (ℕ × Outcome)) → map (λ t. t.page) tries ≡ pages_set word value n
      → InTurn (TriedSteps f.age epoch) tries steps → Legal f (triples 0 (steps ++ base) ++ p.list)
      → ((b : ℕ) → b < n → has_bit value b ≡ hinted (64 * word + b)) → IsPast f w p.list (64 * word) base found
      → IsPast f w p.list (64 * word + n) (steps ++ base) (outcomes_in tries ++ found)
  past_tries word value zero [] steps base found pages order legal bits h =
      past_by f w p.list _ base _ found found (ap (λ ms. ms ++ base) (sym order)) refl (past_at f w p.list (64 * word) _ base found (omega arith) h)
  past_tries word value zero (t ∷ tries) steps base found pages order legal bits h = absurd (no_first t.page (map (λ t. t.page) tries) pages)
  past_tries word value (suc n) [] steps base found pages order legal bits h = elim (cases_Bool (has_bit value n)) [
    | inl set ↦ absurd (no_first (64 * word + n) (pages_set word value n) (sym (pages ∙ pages_at word value n true set)))
    | inr clear ↦
        let page : ℕ = 64 * word + n in
        let before = past_tries word _ n [] steps base found (pages ∙ pages_at word value n false clear) order legal (λ b lt. bits b (omega (arith, lt))) h in
        past_at f w p.list (suc page) (64 * word + suc n) (steps ++ base) found (omega arith) (past_other page (steps ++ base) found (sym (bits n (omega arith)) ∙ clear) before)
  ]
  past_tries word value (suc n) (t ∷ earlier) steps base found pages order legal bits h = elim (cases_Bool (has_bit value n)) [
    | inl set ↦
        let page : ℕ = 64 * word + n in
        let all : t.page ∷ map (λ t. t.page) earlier ≡ page ∷ pages_set word value n = pages ∙ pages_at word value n true set in
        let here : t.page ≡ page = cc all in
        let rest : List Made = order.1 ++ base in
        let pairs : List (ℕ × Outcome) = outcomes_in earlier ++ found in
        let cut : steps ++ base ≡ order.0 ++ rest = ap (λ (ms : List Made). ms ++ base) order.4 ∙ append_assoc order.0 order.1 base in
        let whole : Legal f (triples 0 (order.0 ++ rest) ++ p.list) = subst (λ (ms : List Made). Legal f (triples 0 ms ++ p.list)) cut legal in
        let before = past_tries word value n _ _ base found (cc all) order.3 (legal_earlier f 0 order.0 rest p.list whole) (λ b lt. bits b (omega (arith, lt))) h in
        let tries : TrySteps f.age epoch page t.outcome order.0 = subst (λ (q : ℕ). TrySteps f.age epoch q t.outcome order.0) here order.2 in
        let done = past_tried page t.outcome order.0 rest pairs (sym (bits n (omega arith)) ∙ set) tries whole before in
        let told_are = first_outcome t.page t.outcome (outcomes_in earlier) found ∙ ap (λ (q : ℕ). with_outcome q t.outcome pairs) here in
        past_at f w p.list (suc page) (64 * word + suc n) (steps ++ base) (outcomes_in (t ∷ earlier) ++ found) (omega arith)
        (past_by f w p.list (suc page) (order.0 ++ rest) (steps ++ base) (with_outcome page t.outcome pairs) _ (sym cut) (sym told_are) done)
    | inr clear ↦
        let page : ℕ = 64 * word + n in
        let pairs : List (ℕ × Outcome) = outcomes_in (t ∷ earlier) ++ found in
        let before = past_tries word _ n (t ∷ earlier) steps base found (pages ∙ pages_at word value n false clear) order legal (λ b lt. bits b (omega (arith, lt))) h in
        past_at f w p.list (suc page) (64 * word + suc n) (steps ++ base) pairs (omega arith) (past_other page (steps ++ base) pairs (sym (bits n (omega arith)) ∙ clear) before)
  ]

  -- ==== the words below the n-th
  pub past_words : (n : ℕ) (words : List WordRead) (steps base : List Made) → map (λ r. r.number) words ≡ numbers_below n
      → InTurn (WordSteps f.age epoch) words steps → Legal f (triples 0 (steps ++ base) ++ p.list) → IsPast f w p.list 0 base []
      → IsPast f w p.list (64 * n) (steps ++ base) (outcomes_in (all_tried words))
  past_words zero [] steps base numbers order legal h = past_by f w p.list 0 base (steps ++ base) [] [] (ap (λ (ms : List Made). ms ++ base) (sym order)) refl h
  past_words zero (r ∷ words) steps base numbers order legal h = absurd (no_first r.number (map (λ r. r.number) words) numbers)
  past_words (suc n) [] steps base numbers order legal h = absurd (no_first n (numbers_below n) (sym numbers))
  past_words (suc n) (r ∷ words) steps base numbers order legal h =
      let here : r.number ≡ n = cc numbers in
      let look : Made = made (Look (Word.Empty n)) r.value in
      let read : WordSteps f.age epoch r order.0 = order.2 in
      let rest : List Made = order.1 ++ base in
      let pairs : List (ℕ × Outcome) = outcomes_in (all_tried words) in
      let piece : order.0 ≡ read.after ++ (look ∷ []) = read.steps_are ∙ ap (λ (x : ℕ). read.after ++ (made (Look (Word.Empty x)) r.value ∷ [])) here in
      let cut : steps ++ base ≡ read.after ++ (look ∷ rest) =
      ap (λ ms. ms ++ base) (order.4 ∙ ap (λ ms. ms ++ order.1) piece) ∙ (append_assoc _ order.1 base ∙ append_assoc read.after (look ∷ []) rest) in
      let whole : Legal f (triples 0 (read.after ++ (look ∷ rest)) ++ p.list) = subst (λ (ms : List Made). Legal f (triples 0 ms ++ p.list)) cut legal in
      let begun : Legal f (triples 0 (look ∷ rest) ++ p.list) = legal_earlier f 0 read.after (look ∷ rest) p.list whole in
      let before : IsPast f w p.list (64 * n) rest pairs = past_words n words order.1 base (cc numbers) order.3 begun.1 h in
      let bits : ((b : ℕ) → b < 64 → has_bit r.value b ≡ hinted (64 * n + b)) = λ b lt. (let w' : Whole = triples 0 rest ++ p.list in
      let word : (64 * n + b) / 64 ≡ n = omega (arith, lt) in
      let place : (64 * n + b) % 64 ≡ b = omega (arith, lt) in
      cc ((words_stay (64 * n + b) 0 rest p.list (before.spared (64 * n + b) (omega arith))).hint)) in
      let pages : map (λ t. t.page) r.tried ≡ pages_set n r.value 64 = read.pages_are ∙ ap (λ (x : ℕ). pages_set x r.value 64) here in
      let done : IsPast f w p.list (64 * n + 64) (read.after ++ (look ∷ rest)) (outcomes_in r.tried ++ pairs) =
      past_tries n r.value 64 r.tried read.after (look ∷ rest) pairs pages read.tries whole bits (past_look (64 * n) n r.value rest pairs before) in
      past_at f w p.list (64 * n + 64) (64 * suc n) (steps ++ base) (outcomes_in (all_tried (r ∷ words))) (omega arith)
      (past_by f w p.list (64 * n + 64) (read.after ++ (look ∷ rest)) (steps ++ base) _ _ (sym cut) (sym (outcomes_append r.tried (all_tried words))) done)
