-- Bits of the words of page vectors.
use Rattle.std.proofs.Common.{◌≡◌, ◌≢◌, ℕ, ◌+◌, ◌-◌, ◌*◌, ◌/◌, ◌%◌, ◌^◌, ◌<◌, ◌==◌, Bool, true, false, not, ◌&&◌, ◌||◌, if◌then◌else◌, ap, sym, ◌∙◌, arith}
use Rattle.std.proofs.{Common.{bit_and, bit_or, inl, inr, w64, eqb-true, eq-eqb, ne_eqb}, lemmas.Nat.{pow_below, Bits.{bit_at-pow_same, bit_at-pow_other}}}
use Rattle.std.{proofs.{lemmas.Bool.{eqb-false, cases_eq, Decides.nat_tests}, Math.Bool.or_comm}, specs.Int.{bit_not, trailing_zeros}}
use Rattle.pas_bits.{specs.{Bits.has_bit, PageVectors.{page_mask, is_in_word, HasNoPage, IsLowestPage}}, proofs.Masks.{none_from, lowest_from}}
use Rattle.pas_bits.proofs.Words.{bit_of_or, bit_cleared}

-- ---- the bit of a page
pub page_mask_lt : (q : ℕ) → page_mask q < 2 ^ 64
page_mask_lt q = let lt : 2 ^ (q % 64) < 2 ^ 64 = pow_below (q % 64) 64 (omega arith) in omega (arith, lt)

page_mask_bit : (q b : ℕ) → has_bit (page_mask q) b ≡ (q % 64 == b)
page_mask_bit q b =
    ap (λ n. has_bit n b) (let is : page_mask q ≡ 2 ^ (q % 64) = omega (arith, pow_below (q % 64) 64 (omega arith)) in is) ∙ elim (cases_eq (q % 64) b) [
      | inl e ↦ ap (λ n. has_bit (2 ^ n) b) e ∙ ap (λ x. x == 1) (bit_at-pow_same b) ∙ sym (eq-eqb (q % 64) b e)
      | inr ne ↦ ap (λ x. x == 1) (bit_at-pow_other (q % 64) b (λ e. ne (sym e))) ∙ sym (ne_eqb (q % 64) b ne)
    ]

-- two pages of one word are one exactly where their bits are
same_bit : (q p : ℕ) → q / 64 ≡ p / 64 → (q % 64 == p % 64) ≡ (q == p)
same_bit q p e = grind (arith, nat_tests, e)

-- the bit of a page of the same word
block_bit : (q p : ℕ) → (q / 64 == p / 64) ≡ true → is_in_word (page_mask q) p ≡ (q == p)
block_bit q p h = page_mask_bit q (p % 64) ∙ same_bit q p (eqb-true (q / 64) (p / 64) h)

-- A word of a page vector with one page more has that page and those before.
pub page_added : (word page p : ℕ) → p / 64 ≡ page / 64 → is_in_word (bit_or word (page_mask page)) p ≡ ((page == p) || is_in_word word p)
page_added word page p same = search (arith, bit_of_or, or_comm, page_mask_bit, same_bit)

-- ---- after a page's bit was cleared, or set
clear_cases : (f y : Bool) → (f && not y) ≡ (if y then false else f)
clear_cases f y = grind arith

-- A flag that is set where a test passes: by its two values.
set_cases : (f y : Bool) → (f || y) ≡ (if y then true else f)
set_cases f y = grind arith

other_block : (q p : ℕ) → (q / 64 == p / 64) ≡ false → (q == p) ≡ false
other_block q p h = ne_eqb q p (λ e. eqb-false (q / 64) (p / 64) h (ap (λ x. x / 64) e))

-- the page's bit after the bit of page q was cleared, or set, where x says that the vector is the same
pub page_bit-clear : (q p old : ℕ) (x : Bool)
    → has_bit (if x && (q / 64 == p / 64) then bit_and old (bit_not w64 (page_mask q)) else old) (p % 64)
    ≡ (if x && (q == p) then false else has_bit old (p % 64))
page_bit-clear q p old x = search (arith, bit_cleared, page_mask_lt, block_bit, clear_cases, other_block)

-- A page's bit in a word with the mask of one is set for that page, and is as before for others.
pub page_bit-set : (q p old : ℕ) (x : Bool)
    → has_bit (if x && (q / 64 == p / 64) then bit_or old (page_mask q) else old) (p % 64) ≡ (if x && (q == p) then true else has_bit old (p % 64))
page_bit-set q p old x = grind (arith, bit_of_or, block_bit, set_cases, other_block)

-- ---- the lowest page of a word
pub no_page : (n number next low : ℕ) → low ≡ next - 64 * number → n / 2 ^ low ≡ 0 → HasNoPage n number next
no_page n number next low is nothing p from at = none_from n low (p % 64) nothing (omega (arith, is, from, at))

-- The lowest page of a word from one on is where the trailing zeros end.
pub lowest_found : (n number next low : ℕ) → low ≡ next - 64 * number → low < 64 → n < 2 ^ 64 → n / 2 ^ low ≢ 0
    → IsLowestPage n number next (64 * number + low + trailing_zeros w64 (n / 2 ^ low))
lowest_found n number next low is small fits some =
    search (arith, lowest_from)
