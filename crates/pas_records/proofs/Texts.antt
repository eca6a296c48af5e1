-- Lines that are written piece by piece.
use Rattle.std.proofs.{Common.{◌≡◌, ℕ, zero, suc, ◌-◌, ◌*◌, ◌/◌, ◌%◌, ◌^◌, ◌<◌, List, [], ◌∷◌, ◌++◌, refl, ap, ◌∙◌, arith, append_assoc}, Math.Nat.pow-suc}
use Rattle.pas_records.specs.Lines.{hex_digit, hex_digits}

-- ---- the digit of a place
sixteens : (k : ℕ) → 2 ^ (4 * k) ≡ 16 ^ k
sixteens zero = refl
sixteens (suc k) =
    let e : 4 * suc k ≡ suc (suc (suc (suc (4 * k)))) = omega arith in
    ap (λ j. 2 ^ j) e ∙ omega (arith, sixteens k, pow-suc 16 k, pow-suc 2 (4 * k), pow-suc 2 (suc (4 * k)), pow-suc 2 (suc (suc (4 * k))), pow-suc 2 (suc (suc (suc (4 * k)))))

one_more : (place : ℕ) (n : ℕ) (front line : List ℕ) (digit : ℕ) → digit ≡ n / 16 ^ place % 16 → line ≡ front ++ (hex_digit digit ∷ [])
    → line ++ hex_digits place n ≡ front ++ hex_digits (suc place) n
one_more place n front line digit is added = ap (λ (t : List ℕ). t ++ hex_digits place n) added ∙ append_assoc front (hex_digit digit ∷ []) (hex_digits place n)
    ∙ ap (λ d. front ++ (hex_digit d ∷ hex_digits place n)) is

-- A hexadecimal digit more of a number makes its line one place longer.
pub hex_more : (place n : ℕ) (front line : List ℕ) → 0 < place → line ≡ front ++ (hex_digit (n / 2 ^ (4 * (place - 1)) % 16) ∷ [])
    → line ++ hex_digits (place - 1) n ≡ front ++ hex_digits place n
hex_more zero n front line some added = absurd (omega arith)
hex_more (suc place) n front line some added = search (arith, sixteens, one_more)

-- ---- what several pieces in a row make: a piece and a rest, words and a number and a rest, and a line from none
pub then_piece : (old now new x y : List ℕ) → now ≡ old ++ x → new ≡ now ++ y → new ≡ old ++ (x ++ y)
then_piece old now new x y first next = next ∙ ap (λ (t : List ℕ). t ++ y) first ∙ append_assoc old x y

-- A line with words, a number and what follows is the one before with that field.
pub then_field : (old now new words number y : List ℕ) → now ≡ old ++ (words ++ number) → new ≡ now ++ y → new ≡ old ++ (words ++ (number ++ y))
then_field old now new words number y first next = then_piece old now new (words ++ number) y first next ∙ ap (λ (t : List ℕ). old ++ t) (append_assoc words number y)
