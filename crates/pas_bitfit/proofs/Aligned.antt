-- Where the block of a run stands, and how long it is.
use Rattle.std.proofs.Common.{◌≡◌, ℕ, ◌+◌, ◌*◌, ◌/◌, ◌%◌, ◌==◌, Bool, true, false, ◌||◌, not, refl, ap, sym, ◌∙◌, arith, nat_lt, eq-eqb, eqb-true}
use Rattle.std.proofs.Math.Nat.{add-mul-mod_self_right, mul-mod_left, mod-add-div', mul_assoc}
use Rattle.pas_profile.{specs.Classes.IsAlignment, proofs.Sizes.{passes_below, passes_at}}

-- an alignment is a multiple of 16
abbrev is_sixteens : ℕ → Bool
is_sixteens a = nat_lt a 16 || not (4096 % a == 0) || (a % 16 == 0)

sixteens_all : passes_below is_sixteens 4097 ≡ true
sixteens_all = refl

-- Where one of three holds and the first two don't, the third does.
pub or_last : (x y z : Bool) → (x || not y || z) ≡ true → x ≡ false → y ≡ true → z ≡ true
or_last x y z h hx hy = grind arith

-- An alignment is a multiple of 16.
pub sixteens : (align : ℕ) → IsAlignment align → align % 16 ≡ 0
sixteens align is =
    let low = is.0 in let high = is.1 in
    eqb-true (align % 16) 0 (or_last (nat_lt align 16) (4096 % align == 0) (align % 16 == 0)
    (passes_at is_sixteens 4097 align sixteens_all (omega (arith, high))) (grind (arith, low)) (eq-eqb (4096 % align) 0 is.2))

-- a block at an aligned grain of its page stands at a multiple of the alignment
pub stands_aligned : (page first align : ℕ) → IsAlignment align → first % (align / 16) ≡ 0 → (page * 4096 + first * 16) % align ≡ 0
stands_aligned page first align is at =
    let whole : align / 16 * 16 ≡ align = let m = sixteens align is in omega (arith, m) in
    let grains : first / (align / 16) * (align / 16) ≡ first = let m = mod-add-div' first (align / 16) in omega (arith, m, at) in
    let pages : 4096 / align * align ≡ 4096 = let m = mod-add-div' 4096 align in omega (arith, m, is.2) in
    let bytes : first * 16 ≡ first / (align / 16) * align = ap (λ n. n * 16) (sym grains) ∙ mul_assoc (first / (align / 16)) (align / 16) 16 ∙ ap (λ n. first / (align / 16) * n) whole in
    let before : page * 4096 ≡ page * (4096 / align) * align = ap (λ n. page * n) (sym pages) ∙ sym (mul_assoc page (4096 / align) align) in
    ap (λ n. n % align) (omega (arith, before) ∙ refl) ∙ add-mul-mod_self_right (first * 16) (page * (4096 / align)) align ∙ ap (λ n. n % align) bytes ∙ mul-mod_left (first / (align / 16)) align
