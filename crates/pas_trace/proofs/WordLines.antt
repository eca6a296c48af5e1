-- Pieces, lines and words against places in the bytes.
use Rattle.std.proofs.Common.{◌≡◌, ◌≢◌, ℕ, zero, suc, ◌+◌, ◌<◌, ◌≤◌, ◌==◌, Bool, true, false, if◌then◌else◌, List, [], ◌∷◌, take, drop, length, get_or, ◌-◌}
use Rattle.std.proofs.Common.{refl, sym, ap, ◌∙◌, arith, add-one, add-zero, length-drop, get_or-drop, eq-eqb, ne_eqb, nat_le, ◌++◌, leb-true, take-append-drop}
use Rattle.std.proofs.{Common.append-nil, Math.Seq.drop-length, lemmas.{List.{take_rest, take_more, drop_more}, Bool.and_parts}}
use Rattle.pas_trace.specs.{Texts.{put_first, pieces, without_empty_end, lines_of, without_empty, words_of}, Numbers.{is_digit, all_digits}}

-- no byte among the first n is the separator
abbrev pub NoneBefore : ℕ → List ℕ → ℕ → Type 0
NoneBefore s bytes n = (k : ℕ) → k < n → get_or bytes k 0 ≢ s

-- A text that begins with the parting byte begins with an empty piece.
pieces-at : (s b : ℕ) (bs : List ℕ) → b ≡ s → pieces s (b ∷ bs) ≡ [] ∷ pieces s bs
pieces-at s b bs e = let t : (b == s) ≡ true = eq-eqb b s e in rw t refl

-- A first byte that doesn't part belongs to the first piece.
pieces-off : (s b : ℕ) (bs : List ℕ) → b ≢ s → pieces s (b ∷ bs) ≡ put_first b (pieces s bs)
pieces-off s b bs e = let t : (b == s) ≡ false = ne_eqb b s e in rw t refl

-- the first piece ends at the first separator
pub pieces-found : (s : ℕ) (bs : List ℕ) (n : ℕ) → NoneBefore s bs n → n < length bs → get_or bs n 0 ≡ s → pieces s bs ≡ take n bs ∷ pieces s (drop (suc n) bs)
pieces-found s [] n none lt found = absurd (omega arith)
pieces-found s (b ∷ bs) zero none lt found = pieces-at s b bs found
pieces-found s (b ∷ bs) (suc n) none lt found =
    pieces-off s b bs (none zero (omega arith))
    ∙ ap (put_first b) (pieces-found s bs n (λ k h. none (suc k) (omega (arith, h))) (omega (arith, lt)) found)

-- .. and where there is none it is all
pieces-whole : (s : ℕ) (bs : List ℕ) → NoneBefore s bs (length bs) → pieces s bs ≡ bs ∷ []
pieces-whole s [] none = refl
pieces-whole s (b ∷ bs) none =
    pieces-off s b bs (none zero (omega arith))
    ∙ ap (put_first b) (pieces-whole s bs (λ k h. none (suc k) (omega (arith, h))))

-- there is always a piece
put_first-some : (b : ℕ) (ps : List (List ℕ)) → (q : List ℕ) × (qs : List (List ℕ)) × (put_first b ps ≡ q ∷ qs)
put_first-some b [] = (b ∷ [], [], refl)
put_first-some b (p ∷ ps) = (b ∷ p, ps, refl)

if-some : (t : Bool) (x y : List (List ℕ)) → ((q : List ℕ) × (qs : List (List ℕ)) × (x ≡ q ∷ qs)) → ((q : List ℕ) × (qs : List (List ℕ)) × (y ≡ q ∷ qs))
    → (q : List ℕ) × (qs : List (List ℕ)) × ((if t then x else y) ≡ q ∷ qs)
if-some true x y hx hy = hx
if-some false x y hx hy = hy

-- There is at least one piece of each text.
pieces-some : (s : ℕ) (bs : List ℕ) → (q : List ℕ) × (qs : List (List ℕ)) × (pieces s bs ≡ q ∷ qs)
pieces-some s [] = ([], [], refl)
pieces-some s (b ∷ bs) = if-some (b == s) ([] ∷ pieces s bs) (put_first b (pieces s bs)) ([], pieces s bs, refl) (put_first-some b (pieces s bs))

-- ---- lines
end-cons : (p q : List ℕ) (qs : List (List ℕ)) → without_empty_end (p ∷ q ∷ qs) ≡ p ∷ without_empty_end (q ∷ qs)
end-cons p q qs = search arith

-- An empty end that falls away leaves the pieces before it as they are.
pub end-after : (p : List ℕ) (s : ℕ) (bs : List ℕ) → without_empty_end (p ∷ pieces s bs) ≡ p ∷ without_empty_end (pieces s bs)
end-after p s bs =
    let some = pieces-some s bs in
    ap (λ ps. without_empty_end (p ∷ ps)) some.2 ∙ end-cons p some.0 some.1 ∙ sym (ap (λ ps. p ∷ without_empty_end ps) some.2)

pub lines-last : (bs : List ℕ) → 0 < length bs → NoneBefore 10 bs (length bs) → lines_of bs ≡ bs ∷ []
lines-last bs given known = search (arith, pieces-whole)

-- ---- words
pub words-skip : (bs : List ℕ) (n : ℕ) → ((k : ℕ) → k < n → get_or bs k 0 ≡ 32) → n ≤ length bs → words_of bs ≡ words_of (drop n bs)
words-skip bs zero spaces le = refl
words-skip [] (suc n) spaces le = absurd (omega arith)
words-skip (b ∷ bs) (suc n) spaces le =
    ap without_empty (pieces-at 32 b bs (spaces zero (omega arith)))
    ∙ words-skip bs n (λ k h. spaces (suc k) (omega (arith, h))) (omega (arith, le))

-- A word of some bytes stays where empty ones fall away.
pub keeps : (bs : List ℕ) (ps : List (List ℕ)) → 0 < length bs → without_empty (bs ∷ ps) ≡ bs ∷ without_empty ps
keeps bs ps given = search arith

words-last : (bs : List ℕ) → 0 < length bs → NoneBefore 32 bs (length bs) → words_of bs ≡ bs ∷ []
words-last bs some none = ap without_empty (pieces-whole 32 bs none) ∙ keeps bs [] some

-- the bytes from the first word on
pub record FromWord (bs word : List ℕ) : Type 0 where
  pub words : words_of bs ≡ words_of word
  pub some : 0 < length word
  pub head : get_or word 0 0 ≢ 32

-- The first word of a text begins where its spaces end.
pub from_word : (bs : List ℕ) (n : ℕ) → ((k : ℕ) → k < n → get_or bs k 0 ≡ 32) → n ≤ length bs → (n < length bs → get_or bs n 0 ≢ 32) → n ≢ length bs
    → FromWord bs (take (length bs - n) (drop n bs))
from_word bs n spaces le ended ne =
    search (arith, take_rest, add-zero, get_or-drop, length-drop, words-skip)

-- Where no space follows a word, it ends with the text.
pub word-last : (bs w : List ℕ) (n : ℕ) → FromWord bs w → NoneBefore 32 w n → n ≡ length w → words_of bs ≡ w ∷ words_of (take (length w - n) (drop n w))
word-last bs w n from none e = search (arith, take_rest, drop-length, words-last)

some-before : (w : List ℕ) (n : ℕ) → get_or w 0 0 ≢ 32 → get_or w n 0 ≡ 32 → 0 < n
some-before w n head e = search arith

-- A word ends before the first space after it, and the other words follow.
pub word-found : (bs w : List ℕ) (n : ℕ) → FromWord bs w → NoneBefore 32 w n → n ≤ length w → (n < length w → get_or w n 0 ≡ 32) → n ≢ length w
    → words_of bs ≡ take n w ∷ words_of (take (length w - (n + 1)) (drop (n + 1) w))
word-found bs w n from none le ended ne = search (arith, take_rest, some-before, pieces-found, add-one)

-- ==== Lines and words that are known whole, without the byte that parts them.

-- no byte is the separator
abbrev pub Lacks : ℕ → List ℕ → Type 0
Lacks s [] = Unit {0}
Lacks s (b ∷ bs) = (b ≢ s) × Lacks s bs

-- Two texts that lack a byte lack it together.
pub lacks-both : (s : ℕ) (xs ys : List ℕ) → Lacks s xs → Lacks s ys → Lacks s (xs ++ ys)
lacks-both s [] ys a b = b
lacks-both s (x ∷ xs) ys a b = (a.0, lacks-both s xs ys a.1 b)

-- Digits lack each byte below 48.
pub digits-lack : (s : ℕ) (w : List ℕ) → s < 48 → all_digits w ≡ true → Lacks s w
digits-lack s [] small e = tt
digits-lack s (b ∷ bs) small e =
    let p = and_parts (is_digit b) (all_digits bs) e in
    let lo : 48 ≤ b = leb-true 48 b (and_parts (nat_le 48 b) (nat_le b 57) p.0).0 in
    (λ same. omega (arith, same, lo), digits-lack s bs small p.1)

-- A text that lacks the parting byte is the first piece of one in which that byte follows it.
pub pieces-until : (s : ℕ) (xs ys : List ℕ) → Lacks s xs → pieces s (xs ++ s ∷ ys) ≡ xs ∷ pieces s ys
pieces-until s [] ys h = pieces-at s s ys refl
pieces-until s (x ∷ xs) ys h = pieces-off s x (xs ++ s ∷ ys) h.0 ∙ ap (put_first x) (pieces-until s xs ys h.1)

-- A text that lacks the parting byte is its only piece.
pub pieces-only : (s : ℕ) (xs : List ℕ) → Lacks s xs → pieces s xs ≡ xs ∷ []
pieces-only s [] h = refl
pieces-only s (x ∷ xs) h = pieces-off s x xs h.0 ∙ ap (put_first x) (pieces-only s xs h.1)

-- the text is a line of these words, the end of the line, and the rest
pub record IsLine (text : List ℕ) (words : List (List ℕ)) (rest : List ℕ) : Type 0 where
  pub line : List ℕ
  pub text_is : text ≡ line ++ 10 ∷ rest
  pub whole : Lacks 10 line
  pub words_are : words_of line ≡ words

-- A line without a line feed is the first line of a text in which one follows it.
pub lines-until : (line rest : List ℕ) → Lacks 10 line → lines_of (line ++ 10 ∷ rest) ≡ line ∷ lines_of rest
lines-until line rest whole = ap without_empty_end (pieces-until 10 line rest whole) ∙ end-after line 10 rest

-- ==== A text that is cut behind the end of a line: its lines are those of the front and those of the rest.

split-append : (t : Bool) (b : ℕ) (ps qs : List (List ℕ)) → ((q : List ℕ) × (rs : List (List ℕ)) × (ps ≡ q ∷ rs))
    → (if t then [] ∷ (ps ++ qs) else put_first b (ps ++ qs)) ≡ (if t then [] ∷ ps else put_first b ps) ++ qs
split-append t b ps qs given = search arith

pieces-append : (s : ℕ) (xs ys : List ℕ) → pieces s (xs ++ s ∷ ys) ≡ pieces s xs ++ pieces s ys
pieces-append s [] ys = pieces-at s s ys refl
pieces-append s (b ∷ bs) ys = ap (λ ps. if b == s then [] ∷ ps else put_first b ps) (pieces-append s bs ys) ∙ split-append _ b _ _ (pieces-some s bs)

end-append : (ps : List (List ℕ)) (s : ℕ) (bs : List ℕ) → without_empty_end (ps ++ pieces s bs) ≡ ps ++ without_empty_end (pieces s bs)
end-append [] s bs = refl
end-append (p ∷ []) s bs =
    let some = pieces-some s bs in
    ap (λ ps. without_empty_end (p ∷ ps)) some.2 ∙ end-cons p some.0 some.1 ∙ sym (ap (λ ps. p ∷ without_empty_end ps) some.2)
end-append (p ∷ q ∷ ps) s bs = end-cons p q (ps ++ pieces s bs) ∙ ap (λ qs. p ∷ qs) (end-append (q ∷ ps) s bs)

lines-ended : (xs ys : List ℕ) → lines_of (xs ++ 10 ∷ ys) ≡ pieces 10 xs ++ lines_of ys
lines-ended xs ys = ap without_empty_end (pieces-append 10 xs ys) ∙ end-append (pieces 10 xs) 10 ys

pub lines-append : (xs ys : List ℕ) → lines_of (xs ++ 10 ∷ ys) ≡ lines_of (xs ++ 10 ∷ []) ++ lines_of ys
lines-append xs ys = lines-ended xs ys ∙ ap (λ ls. ls ++ lines_of ys) (sym (lines-ended xs [] ∙ append-nil (pieces 10 xs)))

-- .. behind the line feed at a place
lines-cut : (bs : List ℕ) (n : ℕ) → n < length bs → get_or bs n 0 ≡ 10 → lines_of bs ≡ lines_of (take (n + 1) bs) ++ lines_of (drop (n + 1) bs)
lines-cut bs n lt found =
    let after : List ℕ = drop (n + 1) bs in
    let whole : bs ≡ take n bs ++ 10 ∷ after = sym (take-append-drop n bs) ∙ ap (λ (t : List ℕ). take n bs ++ t) (drop_more bs n 0 lt ∙ ap (λ (b : ℕ). b ∷ after) found) in
    let front : take (n + 1) bs ≡ take n bs ++ 10 ∷ [] = take_more bs n 0 lt ∙ ap (λ (b : ℕ). take n bs ++ b ∷ []) found in
    ap lines_of whole ∙ lines-append (take n bs) after ∙ ap (λ (t : List ℕ). lines_of t ++ lines_of after) (sym front)

pub some-at : (bs : List ℕ) (n : ℕ) → n < length bs → get_or bs n 0 ≡ 10 → lines_of (take (n + 1) bs) ≢ []
some-at bs n lt found none =
    let front : take (n + 1) bs ≡ take n bs ++ 10 ∷ [] = take_more bs n 0 lt ∙ ap (λ (b : ℕ). take n bs ++ b ∷ []) found in
    let some = pieces-some 10 (take n bs) in
    let lines : lines_of (take (n + 1) bs) ≡ some.0 ∷ some.1 = ap lines_of front ∙ lines-ended (take n bs) [] ∙ append-nil (pieces 10 (take n bs)) ∙ some.2 in
    let both : [] ≡ some.0 ∷ some.1 = sym none ∙ lines in
    absurd (cc)

-- .. that is the first from a place on
pub lines-from : (bs : List ℕ) (p n : ℕ) → n ≤ length (take (length bs - p) (drop p bs))
    → (n < length (take (length bs - p) (drop p bs)) → get_or (take (length bs - p) (drop p bs)) n 0 ≡ 10)
    → p ≤ length bs → p + n ≢ length bs → lines_of bs ≡ lines_of (take (p + n + 1) bs) ++ lines_of (drop (p + n + 1) bs)
lines-from bs p n within ended le ne = search (arith, take_rest, length-drop, get_or-drop, lines-cut)

-- ==== A text has no more lines than bytes, and one.

pieces_few : (separator : ℕ) (text : List ℕ) → length (pieces separator text) ≤ length text + 1
pieces_few separator [] = omega arith
pieces_few separator (b ∷ bs) = let split_few : length (if (b == separator) then [] ∷ (pieces separator bs) else put_first b (pieces separator bs)) ≤ length
    -- whichever way the test goes
    (pieces separator bs) + 1 = search arith in omega (arith, split_few, pieces_few separator bs)

ends_few : (ps : List (List ℕ)) → length (without_empty_end ps) ≤ length ps
ends_few [] = omega arith
ends_few ([] ∷ []) = omega arith
ends_few ((b ∷ bs) ∷ []) = omega arith
ends_few (p ∷ q ∷ ps) = omega (arith, ends_few (q ∷ ps))

-- A text has at most one line more than bytes.
pub lines_few : (text : List ℕ) → length (lines_of text) ≤ length text + 1
lines_few text = omega (arith, ends_few (pieces 10 text), pieces_few 10 text)
