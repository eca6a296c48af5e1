use Rattle.std.proofs.{Common.{arith, ◌≡◌, ℕ, ◌*◌, ◌/◌, ◌-◌, ◌%◌, ◌^◌, ◌<◌, ◌==◌, Bool, List, [], ◌∷◌, get_or, refl, sym, subst}, lemmas.Bool.agree_below}
use Rattle.std.{proofs.lemmas.Bool.agree_below_at, specs.Int.bit_at}
use Rattle.pas_profile.{specs.Classes.{IsClass, class_size, is_usable}, proofs.Sizes.class_passes}
use Rattle.pas_profile.proofs.classes.slot_mask.Goals as goal

-- the grain's bit is set in the mask of a class size
abbrev is_masked : List ℕ → ℕ → Bool
is_masked mask g = bit_at (get_or mask (g / 64) 0) (g % 64) == 1

-- the mask of a class size
abbrev mask_of : ℕ → List ℕ
mask_of size = 18446744073709551615 ∷ 18446744073709551615 ∷ 18446744073709551615 ∷ 18446744073709551615 / 2 ^ (256 - 4096 / size * (size / 16)) ∷ []

each_bit : (class : ℕ) → IsClass class → (g : ℕ) → g < 256 → is_masked (mask_of (class_size class)) g ≡ is_usable class g
each_bit class h g lt = agree_below_at (λ g. is_masked (mask_of (class_size class)) g) (is_usable class) 256 g
    (class_passes (λ class. agree_below (λ g. is_masked (mask_of (class_size class)) g) (is_usable class) 256) refl class h) lt

pub returns : goal.returns
returns c = search (arith, each_bit)
