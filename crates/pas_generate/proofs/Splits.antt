-- Words, and lines that are made of them.
use Rattle.std.proofs.Common.{◌≡◌, ℕ, ◌^◌, ◌<◌, ◌==◌, ◌&&◌, not, nat_lt, Bool, true, false, List, [], ◌∷◌, ◌++◌, length, sym, ap, ◌∙◌, arith, append_assoc}
use Rattle.std.{proofs.{Common.{eq-eqb, ltb-true}, lemmas.Bool.and_parts}, specs.Fmt.decimal}
use Rattle.pas_trace.{specs.Texts.{pieces, without_empty}, proofs.WordLines.{keeps, Lacks, lacks-both, digits-lack, pieces-until, pieces-only, IsLine}}
use Rattle.pas_generate.proofs.Digits.{are-digits}

pub record IsWord (w : List ℕ) : Type 0 where
  pub some : 0 < length w
  pub no_end : Lacks 10 w
  pub no_space : Lacks 32 w

-- the test of a word that is known
abbrev pub lacks : ℕ → List ℕ → Bool
lacks s [] = true
lacks s (b ∷ bs) = not (b == s) && lacks s bs

-- A word that tests as lacking a byte lacks it.
pub lacks-by : (s : ℕ) (w : List ℕ) → lacks s w ≡ true → Lacks s w
lacks-by s [] e = tt
lacks-by s (b ∷ bs) e =
    let p = and_parts (not (b == s)) (lacks s bs) e in
    (λ same. let t : (b == s) ≡ true = eq-eqb b s same in absurd (let bad : false ≡ true = ap not (sym t) ∙ p.0 in cc), lacks-by s bs p.1)

-- Some bytes without a line feed or a space are a word.
pub word-by : (w : List ℕ) → nat_lt 0 (length w) ≡ true → lacks 10 w ≡ true → lacks 32 w ≡ true → IsWord w
word-by w some end space = record { some = ltb-true 0 (length w) some; no_end = lacks-by 10 w end; no_space = lacks-by 32 w space }

-- The decimal digits of a number are a word.
pub decimal-word : (n : ℕ) → n < 2 ^ 64 → IsWord (decimal n)
decimal-word n small = let h = are-digits n small in search (arith, digits-lack)

-- ---- a line of these words, the end of the line, and the rest
pub last-word : (w rest : List ℕ) → IsWord w → IsLine (w ++ 10 ∷ rest) (w ∷ []) rest
last-word w rest h = search (arith, pieces-only, keeps)

-- A word and a space in front of a line are the line's first word.
pub word-before : (w after : List ℕ) (words : List (List ℕ)) (rest : List ℕ) → IsWord w → IsLine after words rest → IsLine (w ++ 32 ∷ after) (w ∷ words) rest
word-before w after words rest h l = record {
  line = w ++ 32 ∷ l.line;
  text_is = ap (λ (t : List ℕ). w ++ 32 ∷ t) l.text_is ∙ sym (append_assoc w (32 ∷ l.line) (10 ∷ rest));
  whole = lacks-both 10 w (32 ∷ l.line) h.no_end (λ e. omega (arith, e), l.whole);
  words_are = ap without_empty (pieces-until 32 w l.line h.no_space) ∙ keeps w (pieces 32 l.line) h.some ∙ ap (λ ws. w ∷ ws) l.words_are;
}

-- more text after the line
pub line-then : (text : List ℕ) (words : List (List ℕ)) (rest more : List ℕ) → IsLine text words rest → IsLine (text ++ more) words (rest ++ more)
line-then text words rest more l = search (arith, append_assoc)
