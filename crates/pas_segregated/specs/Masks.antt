-- Masks as sets of grains of a page, and the slots of a class in them.
use Rattle.std.specs.Prelude.{ℕ, ◌+◌, ◌*◌, ◌/◌, ◌%◌, ◌≡◌, ◌==◌, nat_le, Bool, true, ◌&&◌}
use Rattle.pas_profile.specs.Classes.{class_grains, usable_grains, IsSlotStart}
use Rattle.pas_bits.specs.{declared.mask.Mask4.Mask4, Masks.is_set}

-- a slot of the class begins at this grain of its page
abbrev pub is_start : ℕ → ℕ → Bool
is_start class g = (g % class_grains class == 0) && nat_le (g + class_grains class) (usable_grains class)

-- where the slot of the class begins that covers this grain, if one does
abbrev pub start_of : ℕ → ℕ → ℕ
start_of class g = g / class_grains class * class_grains class

-- each set bit is the first grain of a slot of the class
abbrev pub AreStarts : ℕ → Mask4 → Type 0
AreStarts class starts = (g : ℕ) → is_set starts g ≡ true → IsSlotStart class g
