-- Ranges of pages: in order, long enough, cut, and looked up.
use Rattle.std.proofs.Common.{◌≡◌, ℕ, ◌<◌, ◌≤◌, nat_le, nat_lt, Bool, true, false, ◌||◌, if◌then◌else◌, List, [], ◌∷◌, inl, inr, refl, ap, sym, ◌∙◌, subst}
use Rattle.std.proofs.Common.{arith, true≢false, ◌+◌, ◌-◌, ◌⊎◌, Option, Some, None, MatchOption, not, ◌&&◌, ◌++◌, ◌≢◌, length, get_or, set, take, drop}
use Rattle.std.proofs.{Common.{append_assoc, length-set, zero, suc, eq-eqb, ne_eqb, take_at, drop-drop, length-take-le}, Math.Bool.or_comm}
use Rattle.std.proofs.lemmas.Bool.{Decides.nat_tests, cases_Bool, cases_lt, and_parts, or_cases, or_from, or_left, or_right, cases_order, or_parts, cases_eq}
use Rattle.std.{proofs.lemmas.List.{drop_more, drop_all, take_more, set_split}, specs.List.{remove, refill}}
use Rattle.pas_large.specs.{declared.span.Span.Span, Spans.{in_span, has_page, AreApart, hull, joined, lowest_fit, IsPlaceOf, left_of, cut_at, cut_lowest}}
use Rattle.pas_large.specs.{Spans.EndsFrom, Sets.{HasMore, FitsAt, IsLowestFit, HasNoFit, HasFewer}}
use Rattle.arrayvec.proofs.ArrayVecLemmas.{items-with_items}

-- ==== Ranges in order: their pages, and what becomes of them with one more.

-- ---- tests
-- ---- one range
span_parts : (s : Span) (p : ℕ) → in_span s p ≡ true → (s.first ≤ p) × (p < s.end)
span_parts s p h =
    let parts = and_parts (nat_le s.first p) (nat_lt p s.end) h in let a = parts.0 in let b = parts.1 in (grind (arith, nat_tests), grind (arith, nat_tests))

span_in : (s : Span) (p : ℕ) → s.first ≤ p → p < s.end → in_span s p ≡ true
span_in s p low high = grind (arith, nat_tests)

span_past : (s : Span) (p : ℕ) → s.end ≤ p → in_span s p ≡ false
span_past s p past = grind (arith, nat_tests)

is_lt : (a b : ℕ) → a < b → nat_lt a b ≡ true
is_lt a b h = grind (arith, nat_tests)

isnt_lt : (a b : ℕ) → b ≤ a → nat_lt a b ≡ false
isnt_lt a b h = grind (arith, nat_tests)

-- ---- several
none_below : (low : ℕ) (spans : List Span) (p : ℕ) → AreApart low spans → p ≤ low → has_page spans p ≡ false
none_below low [] p h le = refl
none_below low (s ∷ rest) p h le =
    let a = h.0 in let b = h.1 in
    or_from (in_span s p) (has_page rest p) (grind (arith, nat_tests)) (none_below s.end rest p h.3 (omega (arith, a, b, le)))

above_low : (low : ℕ) (spans : List Span) (p : ℕ) → AreApart low spans → has_page spans p ≡ true → low < p
above_low low spans p h is = elim (cases_lt low p) [ inl above ↦ above | inr below ↦ absurd (true≢false (sym is ∙ none_below low spans p h below)) ]

apart_from : (low lower : ℕ) (spans : List Span) → lower ≤ low → AreApart low spans → AreApart lower spans
apart_from low lower [] le h = tt
apart_from low lower (s ∷ rest) le h = (omega (arith, h.0, le), h.1, h.2, h.3)

-- ---- one more
joins_later : (new s : Span) (rest : List Span) → nat_lt s.end new.first ≡ true → joined new (s ∷ rest) ≡ s ∷ joined new rest
joins_later new s rest is = ap (λ t. if t then s ∷ joined new rest else if nat_lt new.end s.first then new ∷ s ∷ rest else joined (hull s new) rest) is

-- the tests decide which range stands first
joins_before : (new s : Span) (rest : List Span) → nat_lt s.end new.first ≡ false → nat_lt new.end s.first ≡ true → joined new (s ∷ rest) ≡ new ∷ s ∷ rest
joins_before new s rest isnt is = search arith

-- Ranges that keep apart still do with one more joined to them.
pub joined_apart : (low : ℕ) (new : Span) (spans : List Span) → AreApart low spans → low < new.first → new.first < new.end → new.end ≤ 65536
    → AreApart low (joined new spans)
joined_apart low new [] h above some last = (above, some, last, tt)
joined_apart low new (s ∷ rest) h above some last =
    let a = h.0 in let b = h.1 in let c = h.2 in
    elim (cases_Bool (nat_lt s.end new.first)) [
      | inl later ↦ subst (AreApart low) (sym (joins_later new s rest later)) (h.0, h.1, h.2, joined_apart s.end new rest h.3 (grind (arith, nat_tests)) some last)
      | inr meets ↦
          let wider = joined_apart low (hull s new) rest
          (apart_from s.end low rest (omega (arith, a, b)) h.3) (omega (arith, a, above)) (omega (arith, b, some)) (omega (arith, c, last)) in
          search (arith, cases_Bool, joins_before, nat_tests, apart_from, wider)
    ]

hull_has : (s new : Span) (p : ℕ) → s.first < s.end → new.first < new.end → new.first ≤ s.end → s.first ≤ new.end
    → in_span (hull s new) p ≡ (in_span s p || in_span new p)
hull_has s new p some other low high = search (arith, span_parts, cases_lt, or_right, span_in, or_left, or_cases)

-- Ranges with one more joined have just that one's pages more.
pub joined_has : (low : ℕ) (new : Span) (spans : List Span) → AreApart low spans → new.first < new.end
    → HasMore new (has_page spans) (has_page (joined new spans))
joined_has low new [] h some p = or_comm (in_span new p) false
joined_has low new (s ∷ rest) h some p =
    let b = h.1 in
    elim (cases_Bool (nat_lt s.end new.first)) [
      | inl later ↦ search (arith, joins_later, (joined_has s.end new rest h.3 some p))
      | inr meets ↦ let wider = joined_has s.end (hull s new) rest h.3 (omega (arith, b, some)) p in
          search (arith, cases_Bool, joins_before, or_comm, hull_has, nat_tests, wider)
    ]

-- ---- only one list has just these pages
begin_same : (low : ℕ) (s t : Span) (xs ys : List Span) → AreApart low (s ∷ xs) → AreApart low (t ∷ ys) → ((p : ℕ) → has_page (s ∷ xs) p ≡ has_page (t ∷ ys) p)
    → s.first ≤ t.first
begin_same low s t xs ys h k same = elim (cases_lt t.first s.first) [
  | inr le ↦ le
  | inl lt ↦ let a = k.1 in let b = h.1 in
      let there : has_page (t ∷ ys) t.first ≡ true = or_left (in_span t t.first) (has_page ys t.first) (span_in t t.first (omega arith) a) in
      let not_here = or_from (in_span s t.first) (has_page xs t.first) (grind (arith, nat_tests)) (none_below s.end xs t.first h.3 (omega (arith, b, lt))) in
      absurd (true≢false (sym there ∙ (sym (same t.first) ∙ not_here)))
]

end_same : (low : ℕ) (s t : Span) (xs ys : List Span) → AreApart low (s ∷ xs) → AreApart low (t ∷ ys) → s.first ≡ t.first
    → ((p : ℕ) → has_page (s ∷ xs) p ≡ has_page (t ∷ ys) p) → t.end ≤ s.end
end_same low s t xs ys h k first same = elim (cases_lt s.end t.end) [
  | inr le ↦ le
  | inl lt ↦ let b = h.1 in
      let there : has_page (t ∷ ys) s.end ≡ true = or_left (in_span t s.end) (has_page ys s.end) (span_in t s.end (omega (arith, b, first)) lt) in
      let not_here = or_from (in_span s s.end) (has_page xs s.end) (span_past s s.end (omega arith)) (none_below s.end xs s.end h.3 (omega arith)) in
      absurd (true≢false (sym there ∙ (sym (same s.end) ∙ not_here)))
]

rest_has : (s : Span) (xs : List Span) (p : ℕ) → s.end < p → has_page (s ∷ xs) p ≡ has_page xs p
rest_has s xs p past = ap (λ t. t || has_page xs p) (span_past s p (omega (arith, past)))

same_lists_of : (low : ℕ) (xs ys : List Span) → AreApart low xs → AreApart low ys → ((p : ℕ) → has_page xs p ≡ has_page ys p) → xs ≡ ys
same_lists_of low [] [] h k same = refl
same_lists_of low [] (t ∷ ys) h k same = let a = k.1 in absurd (true≢false (sym (or_left (in_span t t.first) (has_page ys t.first) (span_in t t.first (omega arith) a)) ∙ sym (same t.first)))
same_lists_of low (s ∷ xs) [] h k same = let a = h.1 in absurd (true≢false (sym (or_left (in_span s s.first) (has_page xs s.first) (span_in s s.first (omega arith) a)) ∙ same s.first))
same_lists_of low (s ∷ xs) (t ∷ ys) h k same =
    let a = begin_same low s t xs ys h k same in let b = begin_same low t s ys xs k h (λ p. sym (same p)) in
    let first : s.first ≡ t.first = omega (arith, a, b) in
    let c = end_same low s t xs ys h k first same in let d = end_same low t s ys xs k h (sym first) (λ p. sym (same p)) in
    let end : s.end ≡ t.end = omega (arith, c, d) in
    let rest : (p : ℕ) → has_page xs p ≡ has_page ys p
    = λ p. search (arith, cases_lt, rest_has, none_below) in
    ap (λ r. r ∷ xs) (ap (λ f. record { first = f; end = s.end }) first ∙ ap (λ e. record { first = t.first; end = e }) end) ∙ ap (λ r. t ∷ r) (same_lists_of s.end xs ys h.3 (subst (λ e. AreApart e ys) (sym end) k.3) rest)

-- Ranges that keep apart and have just one range's pages more are those with it joined.
pub joined_only : (new : Span) (spans others : List Span) → AreApart 0 spans → 1 ≤ new.first → new.first < new.end → new.end ≤ 65536 → AreApart 0 others
    → HasMore new (has_page spans) (has_page others) → others ≡ joined new spans
joined_only new spans others h first some last apart more =
    same_lists_of 0 others (joined new spans) apart (joined_apart 0 new spans h first some last) (λ p. more p ∙ sym (joined_has 0 new spans h some p))

-- ==== Where enough pages follow each other, in a list of ranges and in its set of pages.

-- the first range begins there and has as many, or one of the others does
fit_step : (low : ℕ) (s : Span) (rest : List Span) (n p : ℕ) → AreApart low (s ∷ rest) → FitsAt (has_page (s ∷ rest)) n p
    → IsPlaceOf p n s ⊎ FitsAt (has_page rest) n p
fit_step low s rest n p h fit =
    let b = h.1 in
    elim (cases_order p s.first) [
      | inl is ↦ inl (record {
        begins = sym is;
        long = elim (cases_lt s.end (s.first + n)) [
          | inr le ↦ le
          | inl lt ↦ absurd (true≢false (sym (fit.pages s.end (omega (arith, is, b)) (omega (arith, is, lt)))
              ∙ or_from (in_span s s.end) (has_page rest s.end) (span_past s s.end (omega arith)) (none_below s.end rest s.end h.3 (omega arith))))
        ];
      })
      | inr differ ↦ elim differ [
        | inl below ↦ absurd (true≢false (sym fit.begins ∙ or_from (in_span s p) (has_page rest p) (grind (arith, nat_tests)) (none_below s.end rest p h.3 (omega (arith, below, b)))))
        | inr above ↦ elim (cases_lt s.end p) [
          | inr within ↦ absurd (true≢false (sym (or_left (in_span s (p - 1)) (has_page rest (p - 1)) (span_in s (p - 1) (omega (arith, above)) (omega (arith, above, within)))) ∙ fit.before (p - 1) (omega (arith, above))))
          | inl past ↦ inr (record {
            begins = elim (or_cases (in_span s p) (has_page rest p) fit.begins) [
              | inl here ↦ absurd (true≢false (sym here ∙ span_past s p (omega (arith, past))))
              | inr later ↦ later
            ];
            before = λ page is. (or_parts (in_span s page) (has_page rest page) (fit.before page is)).1;
            pages = λ page from to. search (arith, or_cases, true≢false, span_past, fit.pages);
          })
        ]
      ]
    ]

no_fit : (n p : ℕ) → FitsAt (has_page []) n p → ⊥
no_fit n p fit = true≢false (sym fit.begins)

fits_here : (n : ℕ) (s : Span) (rest : List Span) → nat_le n (s.end - s.first) ≡ true → lowest_fit n (s ∷ rest) ≡ Some s.first
fits_here n s rest is = ap (λ t. if t then Some s.first else lowest_fit n rest) is

fits_later : (n : ℕ) (s : Span) (rest : List Span) → nat_le n (s.end - s.first) ≡ false → lowest_fit n (s ∷ rest) ≡ lowest_fit n rest
fits_later n s rest isnt = ap (λ t. if t then Some s.first else lowest_fit n rest) isnt

-- what is found, as a fact on the set
abbrev pub IsFound : List Span → ℕ → Option ℕ → Type 0
IsFound spans n found = MatchOption found (HasNoFit (has_page spans) n) (IsLowestFit (has_page spans) n)

found_later : (low : ℕ) (s : Span) (rest : List Span) (n : ℕ) → AreApart low (s ∷ rest) → (s.end - s.first < n) → (found : Option ℕ) → IsFound rest n found
    → IsFound (s ∷ rest) n found
found_later low s rest n h short None none = λ p fit. elim (fit_step low s rest n p h fit) [
  | inl here ↦ absurd (omega (arith, short, here.long))
  | inr later ↦ none p later
]
found_later low s rest n h short (Some first) some = record {
  fits = search (arith, above_low, or_right, or_from, span_past);
  lowest = λ p lt fit. elim (fit_step low s rest n p h fit) [
    | inl here ↦ absurd (omega (arith, short, here.long))
    | inr later ↦ some.lowest p lt later
  ];
}

lowest_found : (low : ℕ) (spans : List Span) (n : ℕ) → AreApart low spans → IsFound spans n (lowest_fit n spans)
lowest_found low [] n h = λ p fit. no_fit n p fit
lowest_found low (s ∷ rest) n h =
    elim (cases_Bool (nat_le n (s.end - s.first))) [
      | inl long ↦ search (arith, nat_tests, fits_here, or_left, span_in, or_from, none_below, fit_step, above_low)
      | inr short ↦ subst (IsFound (s ∷ rest) n) (sym (fits_later n s rest short)) (found_later low s rest n h (grind (arith, nat_tests)) (lowest_fit n rest) (lowest_found s.end rest n h.3))
    ]

-- ==== The first pages of a range are taken out.

-- so many pages from this one on
abbrev pub from_to : ℕ → ℕ → Span
from_to first n = record { first = first; end = first + n }

cuts_here : (first n : ℕ) (s : Span) (rest : List Span) → s.first ≡ first → cut_at first n (s ∷ rest) ≡ left_of n s ++ rest
cuts_here first n s rest is = ap (λ t. if t then left_of n s ++ rest else s ∷ cut_at first n rest) (eq-eqb s.first first is)

cuts_later : (first n : ℕ) (s : Span) (rest : List Span) → (s.first ≡ first → ⊥) → cut_at first n (s ∷ rest) ≡ s ∷ cut_at first n rest
cuts_later first n s rest isnt = ap (λ t. if t then left_of n s ++ rest else s ∷ cut_at first n rest) (ne_eqb s.first first isnt)

leaves_some : (n : ℕ) (s : Span) → n < s.end - s.first → left_of n s ≡ record { first = s.first + n; end = s.end } ∷ []
leaves_some n s lt = ap (λ t. if t then record { first = s.first + n; end = s.end } ∷ [] else []) (is_lt n (s.end - s.first) lt)

leaves_none : (n : ℕ) (s : Span) → s.end - s.first ≤ n → left_of n s ≡ []
leaves_none n s le = ap (λ t. if t then record { first = s.first + n; end = s.end } ∷ [] else []) (isnt_lt n (s.end - s.first) le)

left_apart : (low n : ℕ) (s : Span) (rest : List Span) → AreApart low (s ∷ rest) → AreApart low (left_of n s ++ rest)
left_apart low n s rest h = search (arith, cases_lt, leaves_some, leaves_none, apart_from)

-- Ranges that keep apart still do when the first pages of one are cut.
pub cut_apart : (low first n : ℕ) (spans : List Span) → AreApart low spans → AreApart low (cut_at first n spans)
cut_apart low first n [] h = tt
cut_apart low first n (s ∷ rest) h = let rest = cut_apart s.end first n rest h.3 in grind (arith, rest, cases_eq, cuts_here, left_apart, cuts_later)

-- ---- the pages that are left
within_or : (x a r c : Bool) → x ≡ (a && not c) → (r ≡ true → c ≡ false) → (x || r) ≡ ((a || r) && not c)
within_or x a r c is apart = ap (λ t. t || r) is ∙ (grind arith)

front_or : (a r x c : Bool) → r ≡ (x && not c) → (a ≡ true → c ≡ false) → (a || r) ≡ ((a || x) && not c)
front_or a r x c is apart = ap (λ t. a || t) is ∙ (grind arith)

none_left : (n p : ℕ) (s : Span) → s.end ≡ s.first + n → false ≡ (in_span s p && not (in_span (from_to s.first n) p))
none_left n p s is = grind (arith, nat_tests)

-- Ranges that were cut have just those first pages fewer.
pub cut_has : (low first n : ℕ) (spans : List Span) → AreApart low spans → FitsAt (has_page spans) n first
    → HasFewer (from_to first n) (has_page spans) (has_page (cut_at first n spans))
cut_has low first n [] h fit p = refl
cut_has low first n (s ∷ rest) h fit p =
    elim (fit_step low s rest n first h fit) [
      | inl here ↦ let is = here.begins in let long = here.long in
          ap (λ l. has_page l p) (cuts_here first n s rest is)
          ∙ (search (arith, above_low, span_past, cases_lt, leaves_some, within_or, nat_tests, leaves_none, none_left)
          ∙ ap (λ f. (in_span s p || has_page rest p) && not (in_span (from_to f n) p)) is)
      | inr later ↦ search (arith, above_low, cuts_later, front_or, cases_lt, nat_tests, true≢false, span_past, (cut_has s.end first n rest h.3 later p))
    ]

-- ---- the lowest one that has as many
-- what is found begins behind the low page
above_fit : (low : ℕ) (spans : List Span) (n first : ℕ) → AreApart low spans → lowest_fit n spans ≡ Some first → low < first
above_fit low [] n first h is = absurd (cc)
above_fit low (s ∷ rest) n first h is =
    let a = h.0 in let b = h.1 in
    elim (cases_Bool (nat_le n (s.end - s.first))) [
      | inl long ↦ let same : s.first ≡ first = cc in omega (arith, a, same)
      | inr short ↦ let past = above_fit s.end rest n first h.3 (sym (fits_later n s rest short) ∙ is) in omega (arith, a, b, past)
    ]

-- A cut at the lowest range that fits is the cut of the lowest one.
pub cut_is_lowest : (low first n : ℕ) (spans : List Span) → AreApart low spans → lowest_fit n spans ≡ Some first → cut_at first n spans ≡ cut_lowest n spans
cut_is_lowest low first n [] h is = refl
cut_is_lowest low first n (s ∷ rest) h is =
    let b = h.1 in
    elim (cases_Bool (nat_le n (s.end - s.first))) [
      | inl long ↦ let same : Some s.first ≡ Some first = sym (fits_here n s rest long) ∙ is in
          cuts_here first n s rest (cc) ∙ sym (ap (λ t. if t then left_of n s ++ rest else s ∷ cut_lowest n rest) long)
      | inr short ↦ let later : lowest_fit n rest ≡ Some first = sym (fits_later n s rest short) ∙ is in
          let past = above_fit s.end rest n first h.3 later in
          search (arith, cuts_later, (cut_is_lowest _ _ n rest h.3 later))
    ]

-- Where no range is long enough, nothing is cut.
pub none_cut : (n : ℕ) (spans : List Span) → lowest_fit n spans ≡ None → cut_lowest n spans ≡ spans
none_cut n [] is = refl
none_cut n (s ∷ rest) is = elim (cases_Bool (nat_le n (s.end - s.first))) [
  | inl long ↦ absurd (cc)
  | inr short ↦ ap (λ t. if t then left_of n s ++ rest else s ∷ cut_lowest n rest) short ∙ ap (λ l. s ∷ l) (none_cut n rest (sym (fits_later n s rest short) ∙ is))
]

-- ==== Places in a list of ranges, and one range more that was looked at.

above_first : (s : Span) (rest : List Span) (p : ℕ) → AreApart 0 (s ∷ rest) → has_page rest p ≡ true → s.first < p
above_first s rest p h is = let past = above_low s.end rest p h.3 is in omega (arith, past, h.1)

dropped_more : (front spans : List Span) (place here : ℕ) → length front ≡ place → here < length spans
    → drop (suc place) (front ++ drop here spans) ≡ drop (here + 1) spans
dropped_more [] spans place here n lt = subst (λ p. drop (suc p) (drop here spans) ≡ drop (here + 1) spans) n (drop-drop 1 here spans)
dropped_more (x ∷ front) spans zero here n lt = absurd (omega (arith, n))
dropped_more (x ∷ front) spans (suc place) here n lt = dropped_more front spans place here (omega (arith, n)) lt

-- ---- parts of a list in order
apart_drop : (i : ℕ) (low : ℕ) (spans : List Span) → AreApart low spans → AreApart low (drop i spans)
apart_drop zero low spans h = h
apart_drop (suc i) low [] h = tt
apart_drop (suc i) low (s ∷ rest) h = apart_from s.end low (drop i rest) (omega (arith, h.0, h.1)) (apart_drop i s.end rest h.3)

-- A range and those behind its place keep apart.
pub at_place : (spans : List Span) (i : ℕ) (d : Span) → AreApart 0 spans → i < length spans → AreApart 0 (get_or spans i d ∷ drop (i + 1) spans)
at_place spans i d h lt = subst (AreApart 0) (drop_more spans i d lt) (apart_drop i 0 spans h)

-- ---- the ranges that end before a page
-- they stay as they are where a range is added that begins there
abbrev pub StandsBehind : ℕ → List Span → ℕ → Type 0
StandsBehind first spans i = (new : Span) → new.first ≡ first → joined new spans ≡ take i spans ++ joined new (drop i spans)

one_on : (spans : List Span) (i : ℕ) (d : Span) (ys : List Span) → i < length spans → take i spans ++ (get_or spans i d ∷ ys) ≡ take (i + 1) spans ++ ys
one_on spans i d ys lt = sym (append_assoc (take i spans) (get_or spans i d ∷ []) ys) ∙ ap (λ t. t ++ ys) (sym (take_more spans i d lt))

ends_of : (first : ℕ) (spans : List Span) (i : ℕ) (d : Span) → i < length spans → EndsFrom first (drop i spans) → first ≤ (get_or spans i d).end
ends_of first spans i d lt h = subst (EndsFrom first) (drop_more spans i d lt) h

-- ---- ranges that a new one meets
-- the range so far has all pages of the new one and of those from the place to here
pub record Gathers (new whole : Span) (spans : List Span) (place here : ℕ) : Type 0 where
  pub from : place ≤ here
  pub within : here ≤ length spans
  pub joins : joined new (drop place spans) ≡ joined whole (drop here spans)
  pub behind : EndsFrom whole.first (drop here spans)

-- A range that meets what was gathered so far is gathered, too.
pub gathers_more : (new whole : Span) (spans : List Span) (place here : ℕ) (d : Span) → AreApart 0 spans → here < length spans
    → (get_or spans here d).first ≤ whole.end → Gathers new whole spans place here → Gathers new (hull (get_or spans here d) whole) spans place (here + 1)
gathers_more new whole spans place here d h lt meets so_far = search (arith, ends_of, drop_more, isnt_lt, at_place)

-- ---- the lowest one that has as many
-- ---- the range that begins at a page
pub record LooksFor (first n : ℕ) (spans : List Span) (i : ℕ) : Type 0 where
  pub within : i ≤ length spans
  pub fits : FitsAt (has_page (drop i spans)) n first
  pub before : cut_at first n spans ≡ take i spans ++ cut_at first n (drop i spans)

-- The range that is looked for stands before the end of the list.
pub looks_within : (first n : ℕ) (spans : List Span) (i : ℕ) → LooksFor first n spans i → i < length spans
looks_within first n spans i so_far = search (arith, cases_lt, no_fit, drop_all)

-- A range that begins elsewhere is passed over.
pub looks_more : (first n : ℕ) (spans : List Span) (i : ℕ) (d : Span) → AreApart 0 spans → i < length spans → (get_or spans i d).first ≢ first
    → LooksFor first n spans i → LooksFor first n spans (i + 1)
looks_more first n spans i d h lt other so_far =
    let s : Span = get_or spans i d in
    record {
      within = omega (arith, lt);
      fits = elim (fit_step 0 s (drop (i + 1) spans) n first (at_place spans i d h lt) (subst (λ r. FitsAt (has_page r) n first) (drop_more spans i d lt) so_far.fits)) [
        | inl here ↦ absurd (other here.begins)
        | inr later ↦ later
      ];
      before = so_far.before ∙ (ap (λ r. take i spans ++ cut_at first n r) (drop_more spans i d lt) ∙ (ap (λ r. take i spans ++ r) (cuts_later first n s _ other) ∙ one_on spans i d _ lt));
    }

-- A range that begins at the page is the one that was looked for, and is long enough.
pub looked : (first n : ℕ) (spans : List Span) (i : ℕ) (d : Span) → AreApart 0 spans → i < length spans → (get_or spans i d).first ≡ first
    → LooksFor first n spans i → IsPlaceOf first n (get_or spans i d)
looked first n spans i d h lt is so_far =
    let s : Span = get_or spans i d in
    elim (fit_step 0 s (drop (i + 1) spans) n first (at_place spans i d h lt) (subst (λ r. FitsAt (has_page r) n first) (drop_more spans i d lt) so_far.fits)) [
      | inl here ↦ here
      | inr later ↦ let past = above_first s (drop (i + 1) spans) first (at_place spans i d h lt) later.begins in absurd (omega (arith, past, is))
    ]

-- ---- the list afterwards
-- A range that is longer than what is cut of it is left shorter at its place.
pub shortened : (spans : List Span) (i n : ℕ) (s : Span) (ys : List Span) → ys ≡ spans → i < length spans → n < s.end - s.first
    → refill (length spans) spans (set ys i (record { first = s.first + n; end = s.end })) ≡ take i spans ++ (left_of n s ++ drop (i + 1) spans)
shortened spans i n s ys same lt some =
    let new : Span = record { first = s.first + n; end = s.end } in
    ap (λ zs. refill (length spans) spans (set zs i new)) same
    ∙ ((items-with_items (record { items = spans }) (set spans i new) (length-set spans i new))
    ∙ (search (arith, set_split, leaves_some)))

-- those from a place to here were taken out, one more
pub without_more : (spans : List Span) (place here : ℕ) → place ≤ here → here < length spans
    → remove (take place spans ++ drop here spans) place ≡ take place spans ++ drop (here + 1) spans
without_more spans place here le lt = search (arith, length-take-le, take_at, dropped_more)

-- ---- the calls of an index
abbrev pub blank : Span
blank = record { first = 0; end = 0 }

-- The lowest range that fits is what is found, where ranges keep apart.
pub found_for : (spans items : List Span) (n : ℕ) (found : Option ℕ) → AreApart 0 spans → items ≡ spans → found ≡ lowest_fit n items → IsFound spans n found
found_for spans items n found h same is = subst (IsFound spans n) (sym (is ∙ ap (lowest_fit n) same)) (lowest_found 0 spans n h)

-- A list in which the looked-for range lost its first pages is the ranges cut there.
pub cut_is : (first n : ℕ) (spans items ys : List Span) (i : ℕ) → items ≡ spans → i < length items
    → cut_at first n items ≡ take i items ++ cut_at first n (drop i items) → ((d : Span) → IsPlaceOf first n (get_or items i d))
    → ((d : Span) → ys ≡ take i spans ++ (left_of n (get_or spans i d) ++ drop (i + 1) spans)) → ys ≡ cut_at first n spans
cut_is first n spans items ys i same lt before here is = is blank ∙ sym (search (arith, drop_more, cuts_here))
