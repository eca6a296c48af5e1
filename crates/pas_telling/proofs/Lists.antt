-- Lists of words that are accepted.
use Rattle.std.proofs.Common.{◌≡◌, ℕ, ◌≤◌, ◌<◌, Bool, false, List, [], ◌∷◌, IsTrue, Bor, get_or, length, ap, ◌∙◌, sym, inl, inr, arith, nat_eq, refl, codes}
use Rattle.std.{proofs.lemmas.{Bool.{false≢true, Decides.Decides-eqb}, Slice.Eq.slice_eq-Decides}, specs.Cmp.Lexicographic.pointwise}
use Rattle.pas_telling.specs.{Words.{texts_of, word_of, IsReplaying, IsChecking, IsGen, IsNumbers, IsAccepted}, declared.manner.Manner.Manner}

-- a word that is the text
is_text : (word text : List ℕ) (r : Bool) → r ≡ pointwise nat_eq word text → IsTrue r → word ≡ text
is_text word text r is t = (slice_eq-Decides Decides-eqb word text r is).0 t

-- .. or isn't
pub isnt_text : (word text : List ℕ) (r : Bool) → r ≡ pointwise nat_eq word text → r ≡ false → word ≡ text → ⊥
isnt_text word text r is f same = false≢true (sym f ∙ (slice_eq-Decides Decides-eqb word text r is).1 same)

-- one word
one_word : (words : List (Bor (List ℕ))) (d : Bor (List ℕ)) → 1 ≤ length words → length words < 2 → texts_of words ≡ (get_or words 0 d).now ∷ []
one_word (word ∷ []) d some few = refl
one_word _ d some few = absurd (omega arith)

-- The word of a manner alone asks for a replay in that manner.
pub manner_words : (words : List (Bor (List ℕ))) (d : Bor (List ℕ)) → 1 ≤ length words → length words < 2 → (manner : Manner)
    → (get_or words 0 d).now ≡ word_of manner → IsReplaying manner (texts_of words)
manner_words words d some few manner is = one_word words d some few ∙ ap (λ (x : List ℕ). x ∷ []) is

-- two lists of one word, and one of five
not_one : (a b c d e x : List ℕ) → a ∷ b ∷ c ∷ d ∷ e ∷ [] ≡ x ∷ [] → ⊥
not_one a b c d e x h = cc

same_word : (a b : List ℕ) → a ∷ [] ≡ b ∷ [] → a ≡ b
same_word a b h = cc

-- The word check alone asks for a check.
pub check_words : (words : List (Bor (List ℕ))) (d : Bor (List ℕ)) (r : Bool) → 1 ≤ length words → length words < 2
    → r ≡ pointwise nat_eq (get_or words 0 d).now (codes "check") → IsTrue r → IsChecking (texts_of words)
check_words words d r some few is t = one_word words d some few ∙ ap (λ (x : List ℕ). x ∷ []) (is_text (get_or words 0 d).now (codes "check") r is t)

-- One word that is neither a manner's nor check isn't accepted.
pub not_one_of : (words : List (Bor (List ℕ))) (d : Bor (List ℕ)) → 1 ≤ length words → length words < 2 → ((get_or words 0 d).now ≡ codes "check" → ⊥)
    → ((manner : Manner) → (get_or words 0 d).now ≡ word_of manner → ⊥)
    → IsAccepted (texts_of words) → ⊥
not_one_of words d h i j k m = grind (arith, same_word, one_word, not_one)

-- five words
five_words : (words : List (Bor (List ℕ))) (d0 d1 d2 d3 d4 : Bor (List ℕ)) → 5 ≤ length words → length words < 6
    → texts_of words ≡ (get_or words 0 d0).now ∷ (get_or words 1 d1).now ∷ (get_or words 2 d2).now ∷ (get_or words 3 d3).now ∷ (get_or words 4 d4).now ∷ []
five_words (a ∷ b ∷ c ∷ d ∷ e ∷ []) d0 d1 d2 d3 d4 some few = refl
five_words _ d0 d1 d2 d3 d4 some few = absurd (omega arith)

-- The words of a generated trace ask for it by its numbers.
pub gen_words : (words : List (Bor (List ℕ))) (d0 d1 d2 d3 d4 : Bor (List ℕ)) (r : Bool) → 5 ≤ length words → length words < 6
    → r ≡ pointwise nat_eq (get_or words 0 d0).now (codes "gen") → IsTrue r
    → (seed ops threads pages : ℕ)
    → IsNumbers (get_or words 1 d1).now (get_or words 2 d2).now (get_or words 3 d3).now (get_or words 4 d4).now seed ops threads pages
    → IsGen (texts_of words) seed ops threads pages
gen_words words d0 d1 d2 d3 d4 r some few is t seed ops threads pages numbers = record {
  s = (get_or words 1 d1).now;
  o = (get_or words 2 d2).now;
  t = (get_or words 3 d3).now;
  p = (get_or words 4 d4).now;
  words_are = cc (five_words words d0 d1 d2 d3 d4 some few, is_text (get_or words 0 d0).now (codes "gen") r is t);
  numbers = numbers;
}

-- two lists of five words
same_words : (a b c d e a' b' c' d' e' : List ℕ) → a ∷ b ∷ c ∷ d ∷ e ∷ [] ≡ a' ∷ b' ∷ c' ∷ d' ∷ e' ∷ [] → (b ≡ b') × (c ≡ c') × (d ≡ d') × (e ≡ e')
same_words a b c d e a' b' c' d' e' h = (cc, cc, cc, cc)

-- Five words that are no numbers of a generated trace aren't accepted.
pub not_gen : (words : List (Bor (List ℕ))) (d1 d2 d3 d4 : Bor (List ℕ)) → 5 ≤ length words → length words < 6
    → ((seed ops threads pages : ℕ)
    → IsNumbers (get_or words 1 d1).now (get_or words 2 d2).now (get_or words 3 d3).now (get_or words 4 d4).now seed ops threads pages → ⊥)
    → IsAccepted (texts_of words) → ⊥
not_gen words d1 d2 d3 d4 some few never (inl (manner, is)) = not_one _ _ _ _ _ (word_of manner) (sym (five_words words d1 d1 d2 d3 d4 some few) ∙ is)
not_gen words d1 d2 d3 d4 some few never (inr (inl is)) = not_one _ _ _ _ _ (codes "check") (sym (five_words words d1 d1 d2 d3 d4 some few) ∙ is)
not_gen words d1 d2 d3 d4 some few never (inr (inr (seed, ops, threads, pages, is))) =
    let same = same_words _ _ _ _ _ (codes "gen") is.s is.o is.t is.p (sym (five_words words d1 d1 d2 d3 d4 some few) ∙ is.words_are) in
    never seed ops threads pages (rw (same.0, same.1, same.2, same.3) is.numbers)
