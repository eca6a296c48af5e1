-- The marks of a page as bits of a number.
use Rattle.std.proofs.Common.{◌≡◌, ℕ, Bool, if◌then◌else◌, ap, ◌∙◌, bit_or, arith}
use Rattle.bitflags.specs.Sets.{without}
use Rattle.pas_records.specs.Marks.{Marked, bits_of, marks_of}

-- a bit after it was set or cleared
abbrev pub with_bit : Bool → ℕ → ℕ → ℕ
with_bit set bit n = if set then bit_or n bit else without 8 n bit

-- the bits after each was set or cleared in turn
all_bits : (a b c d : Bool) → with_bit d 8 (with_bit c 4 (with_bit b 2 (with_bit a 1 0))) ≡ bits_of (record { backed = a; offered = b; parked = c; hinted = d })
all_bits a b c d = grind arith

-- Four marks as bits of a number make the number of those marks.
pub bits_set : (a b c d : Bool) (x y z w : ℕ) → x ≡ with_bit a 1 0 → y ≡ with_bit b 2 x → z ≡ with_bit c 4 y → w ≡ with_bit d 8 z
    → w ≡ bits_of (record { backed = a; offered = b; parked = c; hinted = d })
bits_set a b c d x y z w first second third fourth = fourth ∙ ap (with_bit d 8) (third ∙ ap (with_bit c 4) (second ∙ ap (with_bit b 2) first)) ∙ all_bits a b c d

-- the marks are those whose bits are set
marks_back : (a b c d : Bool)
    → marks_of (bits_of (record { backed = a; offered = b; parked = c; hinted = d })) ≡ record { backed = a; offered = b; parked = c; hinted = d }
marks_back a b c d = grind arith

-- The marks of a number's bits are those that it was made of.
pub marks_are : (m : Marked) → marks_of (bits_of m) ≡ m
marks_are m = marks_back m.backed m.offered m.parked m.hinted
