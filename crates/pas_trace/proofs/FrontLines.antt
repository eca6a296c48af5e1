-- Lines at the front of a text: their digits, their words, and where they end.
use Rattle.std.proofs.Common.{◌≡◌, ◌≢◌, ℕ, ◌+◌, ◌-◌, ◌*◌, ◌^◌, ◌<◌, ◌≤◌, ◌==◌, Bool, true, false, List, [], ◌∷◌, ◌++◌, take, drop, length, get_or, Some, Ok}
use Rattle.std.proofs.Common.{refl, sym, ap, ◌∙◌, arith, append_assoc, length-append, take-append-drop, length-take-le, le-leb, lt-ltb, ne_eqb}
use Rattle.std.proofs.{Math.Nat.pow-le-pow_right, lemmas.{Grind.pow_more, List.{take_rest, take_more, drop_more}, Bool.{and_from, and_parts}}}
use Rattle.pas_trace.specs.{Texts.{pieces, without_empty, lines_of}, FirstLines.{BeginsWith, FirstSays}, Numbers.{is_digit, all_digits, value_from, number_of}}
use Rattle.pas_trace.specs.{Items.{trace_name, item2, item5, item_of_words}, declared.item.{Item.{Item, TheVariants.Operates}, Wish.TheVariants.{Asks, Frees}}}
use Rattle.pas_trace.proofs.{Digits.{digit-is, digits-add, value-add}, WordLines.{keeps, IsLine, Lacks, lacks-both, digits-lack, pieces-until, pieces-only}}
use Rattle.pas_trace.proofs.WordLines.{lines-until}

-- the first so many bytes are digits of this value
pub record AreDigits (text : List ℕ) (count value : ℕ) : Type 0 where
  pub digits : all_digits (take count text) ≡ true
  pub value_is : value ≡ value_from 0 (take count text)
  pub small : value < 10 ^ count

-- One digit more at the front of a text is one of its digits, and makes their value ten times as large and the digit.
pub digits-more : (text : List ℕ) (count value : ℕ) → AreDigits text count value → count < length text → 48 ≤ get_or text count 0 → get_or text count 0 ≤ 57
    → AreDigits text (count + 1) (10 * value + (get_or text count 0 - 48))
digits-more text count value so_far within lo hi =
    let d = get_or text count 0 in
    let more = take_more text count 0 within in
    let value_is : value ≡ value_from 0 (take count text) = so_far.value_is in
    let small : value < 10 ^ count = so_far.small in
    record {
      digits = ap all_digits more ∙ digits-add (take count text) d so_far.digits (digit-is d lo hi);
      value_is = ap (λ v. 10 * v + (d - 48)) value_is ∙ sym (ap (value_from 0) more ∙ value-add 0 (take count text) d);
      small = omega (arith, pow_more 10 count, small, hi);
    }

-- A number of at most 17 digits is below 10^17.
pub digits-room : (count value : ℕ) → value < 10 ^ count → count ≤ 17 → value < 100000000000000000
digits-room count value small few =
    let most : 10 ^ count ≤ 10 ^ 17 = pow-le-pow_right (omega arith) few in omega (arith, small, most)

-- A number of at most 18 digits is below 10^18.
pub digits-small : (count value : ℕ) → value < 10 ^ count → count ≤ 18 → value < 1000000000000000000
digits-small count value small few =
    let most : 10 ^ count ≤ 10 ^ 18 = pow-le-pow_right (omega arith) few in omega (arith, small, most)

-- ---- a number and the byte after it
number-found : (text : List ℕ) (count value end : ℕ) → all_digits (take count text) ≡ true → value ≡ value_from 0 (take count text)
    → value < 1000000000000000000
    → 0 < count → count < length text → get_or text count 0 ≡ end → (1 < count → get_or text 0 0 ≢ 48)
    → BeginsWith text value end (take (length text - (count + 1)) (drop (count + 1) text))
number-found text count value end digits is small some within ended head =
    search (arith, length-take-le, and_parts, and_from, le-leb, lt-ltb, take-append-drop, drop_more, take_rest)

-- .. of one digit
pub one-found : (text : List ℕ) (end : ℕ) → 2 ≤ length text → get_or text 1 0 ≡ end → 48 ≤ get_or text 0 0 → get_or text 0 0 ≤ 57
    → BeginsWith text (get_or text 0 0 - 48) end (take (length text - 2) (drop 2 text))
one-found [] end two ended lo hi = absurd (omega arith)
one-found (x ∷ []) end two ended lo hi = absurd (omega arith)
one-found (x ∷ y ∷ rest) end two ended lo hi =
    let value : x - 48 ≡ 10 * 0 + (x - 48) = omega arith in
    number-found (x ∷ y ∷ rest) 1 (x - 48) end (and_from (is_digit x) true (digit-is x lo hi) refl) value (omega arith) (omega arith) (omega arith) ended (λ many. absurd (omega arith))

-- .. of two digits
pub two-found : (text : List ℕ) (end : ℕ) → 3 ≤ length text → get_or text 2 0 ≡ end → 49 ≤ get_or text 0 0 → get_or text 0 0 ≤ 57 → 48 ≤ get_or text 1 0
    → get_or text 1 0 ≤ 57
    → BeginsWith text (10 * (get_or text 0 0 - 48) + (get_or text 1 0 - 48)) end (take (length text - 3) (drop 3 text))
two-found [] end three ended lo hi low high = absurd (omega arith)
two-found (x ∷ []) end three ended lo hi low high = absurd (omega arith)
two-found (x ∷ y ∷ []) end three ended lo hi low high = absurd (omega arith)
two-found (x ∷ y ∷ z ∷ rest) end three ended lo hi low high =
    let digits = and_from (is_digit x) (all_digits (y ∷ [])) (digit-is x (omega arith) hi) (and_from (is_digit y) true (digit-is y low high) refl) in
    let value : 10 * (x - 48) + (y - 48) ≡ 10 * (10 * 0 + (x - 48)) + (y - 48) = omega arith in
    number-found (x ∷ y ∷ z ∷ rest) 2 (10 * (x - 48) + (y - 48)) end digits value (omega arith) (omega arith) (omega arith) ended (λ many e. omega (arith, e, lo))

-- ---- words and the end of the line
number-some : (w : List ℕ) (n : ℕ) → number_of w ≡ Some n → 0 < length w
number-some w n e = search arith

line-end : (text : List ℕ) (n : ℕ) (rest : List ℕ) (b : BeginsWith text n 10 rest) → IsLine text (b.word ∷ []) rest
line-end text n rest b = search (arith, digits-lack, pieces-only, number-some)

word-more : (text w after : List ℕ) (words : List (List ℕ)) (rest : List ℕ) → text ≡ w ++ 32 ∷ after → Lacks 10 w → Lacks 32 w → 0 < length w
    → IsLine after words rest → IsLine text (w ∷ words) rest
word-more text w after words rest is whole one some l = record {
  line = w ++ 32 ∷ l.line;
  text_is = is ∙ ap (λ (t : List ℕ). w ++ 32 ∷ t) l.text_is ∙ sym (append_assoc w _ _);
  whole = lacks-both 10 w _ whole (λ e. omega (arith, e), l.whole);
  words_are = ap without_empty (pieces-until 32 w _ one) ∙ keeps w (pieces 32 l.line) some ∙ ap (λ ws. w ∷ ws) l.words_are;
}

line-more : (text : List ℕ) (n : ℕ) (after : List ℕ) (words : List (List ℕ)) (rest : List ℕ) (b : BeginsWith text n 32 after) → IsLine after words rest
    → IsLine text (b.word ∷ words) rest
line-more text n after words rest b l = word-more text b.word after words rest b.text_is (digits-lack 10 b.word (omega arith) b.digits)
    (digits-lack 32 b.word (omega arith) b.digits) (number-some b.word n b.number) l

-- ---- the first line
line-says : (version b : ℕ) (text : List ℕ) (words : List (List ℕ)) (rest : List ℕ) (item : Item) → 35 < b → IsLine text words rest
    → ((started : Bool) → item_of_words version started ((b ∷ []) ∷ words) ≡ Ok item) → FirstSays version (b ∷ 32 ∷ text) item rest
unfolding word-more
line-says version b text words rest item big l says =
    let whole = word-more (b ∷ 32 ∷ text) (b ∷ []) text words rest refl (λ e. omega (arith, e, big), tt) (λ e. omega (arith, e, big), tt) (omega arith) l in
    let line : List ℕ = b ∷ 32 ∷ l.line in
    let other : (b == 35) ≡ false = ne_eqb b 35 (λ e. omega (arith, e, big)) in
    record {
      line = line;
      cut = ap lines_of whole.text_is ∙ lines-until line rest whole.whole;
      shorter = omega (arith, ap length whole.text_is, length-append line (10 ∷ rest));
      says = λ started. rw other (ap (item_of_words version started) whole.words_are ∙ says started);
    }

-- A text that begins with the words of an allocation, up to a line feed, says it in its first line.
pub allocation-first : (version : ℕ) (text t1 t2 t3 t4 rest : List ℕ) (t n h s a : ℕ) → BeginsWith text t 32 t1 → BeginsWith t1 n 32 t2 → BeginsWith t2 h 32 t3
    → BeginsWith t3 s 32 t4 → BeginsWith t4 a 10 rest → 1 ≤ n → n ≤ 1000000
    → FirstSays version (97 ∷ 32 ∷ text) (Operates t (Asks n h s a)) rest
allocation-first version text t1 t2 t3 t4 rest t n h s a b1 b2 b3 b4 b5 lo hi =
    let named : trace_name b2.word ≡ Some n = search (arith, lt-ltb, le-leb) in
    line-says version 97 text (b1.word ∷ b2.word ∷ b3.word ∷ b4.word ∷ b5.word ∷ []) rest _ (omega arith)
    (line-more text t t1 _ rest b1 (line-more t1 n t2 _ rest b2 (line-more t2 h t3 _ rest b3 (line-more t3 s t4 _ rest b4 (line-end t4 a rest b5)))))
    (λ started i. item5 (λ t n h s a. Operates t (Asks n h s a)) (b1.number i) (named i) (b3.number i) (b4.number i) (b5.number i))

-- A text that begins with the words of a free, up to a line feed, says it in its first line.
pub free-first : (version : ℕ) (text t1 rest : List ℕ) (t n : ℕ) → BeginsWith text t 32 t1 → BeginsWith t1 n 10 rest → 1 ≤ n → n ≤ 1000000
    → FirstSays version (102 ∷ 32 ∷ text) (Operates t (Frees n)) rest
free-first version text t1 rest t n b1 b2 lo hi =
    let named : trace_name b2.word ≡ Some n = search (arith, lt-ltb, le-leb) in
    line-says version 102 text (b1.word ∷ b2.word ∷ []) rest _ (omega arith) (line-more text t t1 _ rest b1 (line-end t1 n rest b2)) (λ started i. item2 (λ t n. Operates t (Frees n)) (b1.number i) (named i))
