-- A header has ten words, and its numbers are within the limits.
use Rattle.std.proofs.Common.{◌≡◌, ℕ, ◌<◌, ◌≤◌, ◌&&◌, Bool, if◌then◌else◌, List, [], ◌∷◌, length, Option, None, Some, refl, subst, arith, codes, le-leb, ◌-◌}
use Rattle.std.proofs.{Common.{◌^◌, nat_lt, Result, IfOk, MatchOption, ltb-true, ◌+◌, Ok, Err, ap, ◌∙◌}, lemmas.Bool.and_parts}
use Rattle.pas_profile.specs.{Profiles.{IsValid, AreClassesFor}, declared.profile.Profile.Profile}
use Rattle.pas_trace.specs.declared.{header.Header.Header, fault.{Reason.Reason, TraceFault.TraceFault}, item.Item.{Item, TheVariants.{Operates, Scavenges}}}
use Rattle.pas_trace.specs.{declared.item.Wish.TheVariants.{FreesRaw, FreesRawSized}, Texts.{words_of, lines_of}, Numbers.number_of, Asked.epoch_of}
use Rattle.pas_trace.specs.Items.{same_bytes, below, since, has_since, item1, item2, item3, item4, item5, item_of_two, item_of_six, item_of_words, item_of_line}
use Rattle.pas_trace.specs.Reasons.{within, most_pages, header_with, header_for, header_of_words, header_of, reason_of, kept, checked, line_says}
use Rattle.pas_trace.{specs.Plans.{after_item, items_from, Parsed, with_items, with_header, parsed, parsed_lines}, proofs.PassedChecks.if_some}

-- Four or five words are no header.
pub short4 : (a b c d : List ℕ) (ws : List (List ℕ)) → length ws < 2 → header_of_words (a ∷ b ∷ c ∷ d ∷ ws) ≡ None
short4 a b c d e lt = search arith

-- Six or seven words are no header.
pub short6 : (a b c d e f : List ℕ) (ws : List (List ℕ)) → length ws < 2 → header_of_words (a ∷ b ∷ c ∷ d ∷ e ∷ f ∷ ws) ≡ None
short6 a b c d e f h lt = search arith

-- Eight or nine words are no header.
pub short8 : (a b c d e f g h : List ℕ) (ws : List (List ℕ)) → length ws < 2 → header_of_words (a ∷ b ∷ c ∷ d ∷ e ∷ f ∷ g ∷ h ∷ ws) ≡ None
short8 a b c d e f g h i lt = search arith

-- ---- the limits
in_range : (least most n : ℕ) (o : Option ℕ) → within least most o ≡ Some n → (least ≤ n) × (n ≤ most)
in_range least most n o e = search (arith, if_some, and_parts)

-- a number that is there is within these limits
abbrev Within : ℕ → ℕ → Option ℕ → Type 0
Within least most o = (n : ℕ) → o ≡ Some n → (least ≤ n) × (n ≤ most)

-- the classes and the pages of either kind of region
region_fits : (large : Bool) (p : ℕ) → p ≤ (if large then 16384 else 4096) → AreClassesFor p (if large then 20 else 16) × (p ≤ 16384)
region_fits large p le = search (arith, le-leb)

numbers_valid : (version : ℕ) (p t h a : Option ℕ) (f : Header) → Within 1 (most_pages version) p → Within 1 16 t → Within 1 32 h → Within 1 1000000 a
    → header_with version p t h a ≡ Some f → IsValid f.profile
numbers_valid version b t h a f ps ts hs es e = search (arith, region_fits)

for_valid : (o : Option ℕ) (p t h a : List ℕ) (f : Header) → header_for o p t h a ≡ Some f → IsValid f.profile
for_valid None p t h a f e = absurd (cc)
for_valid (Some version) p t h a f e = numbers_valid version _ _ _ _ f (λ n. in_range 1 (most_pages version) n (number_of p))
    (λ n. in_range 1 16 n (number_of t)) (λ n. in_range 1 32 n (number_of h)) (λ n. in_range 1 1000000 n (number_of a)) e

words_valid : (ws : List (List ℕ)) (f : Header) → header_of_words ws ≡ Some f → IsValid f.profile
words_valid (a ∷ b ∷ c ∷ d ∷ g ∷ h ∷ i ∷ j ∷ k ∷ m ∷ []) f e =
    let q = if_some (same_bytes a (codes "pas") && same_bytes c (codes "pages") && same_bytes g (codes "threads") && same_bytes i (codes "heaps") && same_bytes k (codes "age"))
    (header_for (within 1 4 (number_of b)) d h j m) f e in
    for_valid (within 1 4 (number_of b)) d h j m f q.1
words_valid (a ∷ b ∷ c ∷ d ∷ g ∷ h ∷ i ∷ j ∷ k ∷ m ∷ n ∷ ws) f e = absurd (cc)
words_valid s f e = absurd (cc)

-- The region of a line that is a header is a valid profile.
pub header_valid : (line : List ℕ) (f : Header) → header_of line ≡ Some f → IsValid f.profile
header_valid line f is = words_valid (words_of line) f is

-- ==== The numbers of an item are within the ranges of their places.

-- a turn has a next one, and epochs are below 2^40
abbrev pub IsInRange : Item → Type 0
IsInRange (Operates t (FreesRaw a n)) = n < 2 ^ 40 - 1
IsInRange (Operates t (FreesRawSized b n s a)) = n < 2 ^ 40 - 1
IsInRange (Scavenges c) = MatchOption (epoch_of c) (Unit {0}) (λ e. e < 2 ^ 40)
IsInRange i = Unit {0}

if_range : (t : Bool) (a b : Result Item Reason) → IfOk a IsInRange → IfOk b IsInRange → IfOk (if t then a else b) IsInRange
if_range t a b x y = search arith

-- An item of one number is in range where the number is,
range1 : (make : ℕ → Item) (a : Option ℕ) → ((x : ℕ) → a ≡ Some x → IsInRange (make x)) → IfOk (item1 make a) IsInRange
range1 make a all = search arith

-- one of two numbers,
range2 : (make : ℕ → ℕ → Item) (a b : Option ℕ) → ((x y : ℕ) → b ≡ Some y → IsInRange (make x y)) → IfOk (item2 make a b) IsInRange
range2 make a b all = search (arith, range1)

-- of three,
range3 : (make : ℕ → ℕ → ℕ → Item) (a b c : Option ℕ) → ((x y z : ℕ) → c ≡ Some z → IsInRange (make x y z)) → IfOk (item3 make a b c) IsInRange
range3 make a b c all = search (arith, range2)

-- of four,
range4 : (make : ℕ → ℕ → ℕ → ℕ → Item) (a b c d : Option ℕ) → ((w x y z : ℕ) → IsInRange (make w x y z)) → IfOk (item4 make a b c d) IsInRange
range4 make a b c d all = search (arith, range3)

-- .. of five by the third
first_of_three : (make : ℕ → ℕ → ℕ → Item) (a b c : Option ℕ) → ((x y z : ℕ) → a ≡ Some x → IsInRange (make x y z)) → IfOk (item3 make a b c) IsInRange
first_of_three make a b c all = search (arith, range2)

-- and of five.
range5 : (make : ℕ → ℕ → ℕ → ℕ → ℕ → Item) (a b c d e : Option ℕ) → ((v w x y z : ℕ) → c ≡ Some x → IsInRange (make v w x y z))
    → IfOk (item5 make a b c d e) IsInRange
range5 make h b c d e all = search (arith, first_of_three)

kept_lt : (t : Bool) (limit n m : ℕ) → nat_lt m limit ≡ t → (if t then Some m else None) ≡ Some n → n < limit
kept_lt t limit n m is e = search (arith, ltb-true)

below_lt : (limit n : ℕ) (o : Option ℕ) → below limit o ≡ Some n → n < limit
below_lt limit n o e = search (arith, kept_lt)

two_range : (started : Bool) (w a : List ℕ) → IfOk (item_of_two started w a) IsInRange
two_range started w a = search (arith, if_range, range1, below_lt)

six_range : (w a b c d e : List ℕ) → IfOk (item_of_six w a b c d e) IsInRange
six_range w a b c d e = search (arith, if_range, range5, below_lt)

words_range : (version : ℕ) (started : Bool) (ws : List (List ℕ)) → IfOk (item_of_words version started ws) IsInRange
words_range version started [] = tt
words_range version started (w ∷ more) =
    if_range (has_since version (since w)) _ _ (search (arith, if_range, two_range, range2, range3, below_lt, range4, six_range)) tt

-- The numbers of the item that a line says are within the ranges of their places.
line_range : (version : ℕ) (started : Bool) (line : List ℕ) → IfOk (item_of_line version started line) IsInRange
line_range version started line = search (arith, if_range, words_range)

-- ==== The items of a text have passed their checks, and there are no more of them than lines after the first.

pub record IsPassed (f : Profile) (earlier : List Item) (i : Item) : Type 0 where
  pub passes : reason_of f earlier i ≡ None
  pub range : IsInRange i

abbrev pub AreChecked : Profile → List Item → Type 0
AreChecked f [] = Unit {0}
AreChecked f (i ∷ earlier) = IsPassed f earlier i × AreChecked f earlier

ok_is : {A B : Type 0} {x y : A} → (let a : Result A B = Ok x in a) ≡ Ok y → x ≡ y
ok_is h = cc

kept_none : (i j : Item) (o : Option Reason) → kept i o ≡ Ok j → (i ≡ j) × (o ≡ None)
kept_none i j o e = search arith

-- An item that is in range and was checked has passed.
passed : (f : Profile) (earlier : List Item) (r : Result Item Reason) (i : Item) → IfOk r IsInRange → checked f earlier r ≡ Ok i → IsPassed f earlier i
passed f earlier a i range e = search (arith, kept_none)

record AreRead (f : Profile) (items : List Item) (most : ℕ) : Type 0 where
  checked : AreChecked f items
  few : length items ≤ most

next_read : (h : Header) (number : ℕ) (earlier items : List Item) (line : List ℕ) (lines : List (List ℕ)) (r : Result Item Reason)
    → line_says h earlier line ≡ r
    → after_item number r (λ i. items_from h (number + 1) (i ∷ earlier) lines) ≡ Ok items
    → ((i : Item) → AreChecked h.profile (i ∷ earlier) → items_from h (number + 1) (i ∷ earlier) lines ≡ Ok items
    → AreRead h.profile items (length (i ∷ earlier) + length lines))
    → AreChecked h.profile earlier
    → AreRead h.profile items (length earlier + length (line ∷ lines))
next_read h number earlier items line lines r is e more before = search (arith, passed, line_range)

all_read : (h : Header) (number : ℕ) (earlier items : List Item) (lines : List (List ℕ)) → AreChecked h.profile earlier
    → items_from h number earlier lines ≡ Ok items → AreRead h.profile items (length earlier + length lines)
all_read h number earlier items [] before e =
    record { checked = subst (AreChecked h.profile) (ok_is e) before; few = let n = ap (λ is. length is) (ok_is e) in omega (arith, n) }
all_read h number earlier items (line ∷ lines) before e =
    next_read h number earlier items line lines _ refl e (λ i next rest. all_read h (number + 1) (i ∷ earlier) items lines next rest) before

-- ---- the whole text
abbrev parts : Header → List Item → Parsed
parts header items = record { header = header; items = items }

pub record AreParts (header : Header) (items : List Item) (lines : ℕ) : Type 0 where
  pub valid : IsValid header.profile
  pub checked : AreChecked header.profile items
  pub few : length items + 1 ≤ lines

of_items : (f header : Header) (items : List Item) (lines : List (List ℕ)) (r : Result (List Item) TraceFault) → IsValid f.profile → items_from f 2 [] lines ≡ r
    → with_items f r ≡ Ok (parts header items) → AreParts header items (length lines + 1)
of_items f header items lines (Err fault) valid is e = absurd (cc)
of_items f header items lines (Ok js) valid is e =
    let same = ok_is e in
    let header_is : f ≡ header = ap (λ p. p.header) same in
    let read = all_read f 2 [] items lines tt (is ∙ ap (λ p. Ok p.items) same) in
    let few = read.few in
    record { valid = subst (λ (g : Header). IsValid g.profile) header_is valid; checked = subst (λ (g : Header). AreChecked g.profile items) header_is read.checked; few = omega (arith, few) }

of_header : (line : List ℕ) (o : Option Header) (header : Header) (items : List Item) (lines : List (List ℕ)) → header_of line ≡ o
    → with_header o lines ≡ Ok (parts header items) → AreParts header items (length lines + 1)
of_header line None header items lines is e = absurd (cc)
of_header line (Some f) header items lines is e = of_items f header items lines (items_from f 2 [] lines) (header_valid line f is) refl e

of_lines : (lines : List (List ℕ)) (header : Header) (items : List Item) → parsed_lines lines ≡ Ok (parts header items) → AreParts header items (length lines)
of_lines [] header items e = absurd (cc)
of_lines (line ∷ lines) header items e =
    let p = of_header line (header_of line) header items lines refl e in
    let few = p.few in
    record { valid = p.valid; checked = p.checked; few = omega (arith, few) }

-- The items of a text that was parsed passed their checks, and are no more than its lines after the first.
pub parts_of : (text : List ℕ) (header : Header) (items : List Item) → parsed text ≡ Ok (parts header items) → AreParts header items (length (lines_of text))
parts_of text header items e = of_lines (lines_of text) header items e
