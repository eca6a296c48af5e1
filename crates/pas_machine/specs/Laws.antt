-- What every run of the machine keeps.
use Rattle.std.specs.Prelude.{ℕ, ◌+◌, ◌/◌, ◌≡◌, ◌≢◌, true, false, List, Option, None, Some}
use Rattle.pas_profile.specs.{declared.{profile.Profile.Profile, event.Event.Event}, Blocks.{address_of, length_of}}
use Rattle.pas_bits.specs.Runs.{in_run}
use Rattle.pas_machine.specs.{State.{Live, live_in, gives_in, ends_in}, Machine.Bears}

-- a block lives at its own address
abbrev pub IsWhere : List Event → Type 0
IsWhere es = (a : ℕ) (b : Live) → live_in es a ≡ Some b → address_of b.block.name ≡ a

-- two live blocks have no grain in common
abbrev pub AreApart : List Event → Type 0
AreApart es = (a c : ℕ) (b d : Live) → live_in es a ≡ Some b → live_in es c ≡ Some d → a ≢ c
    → (x : ℕ) → in_run (a / 16) (length_of b.block) x ≡ true → in_run (c / 16) (length_of d.block) x ≡ false

-- at each address, the blocks that were given are those that ended and the one that lives, whose turn is the number of ends
abbrev pub IsCounted : Option Live → ℕ → ℕ → Type 0
IsCounted None gives ends = gives ≡ ends
IsCounted (Some b) gives ends = (gives ≡ ends + 1) × (b.block.name.turn ≡ ends)

abbrev pub AreCounted : List Event → Type 0
AreCounted es = (a : ℕ) → IsCounted (live_in es a) (gives_in es a) (ends_in es a)

-- each page under a live block exists, has a deed of the block's heap, and is backed
abbrev pub AreBorne : Profile → List Event → Type 0
AreBorne f es = (a : ℕ) (b : Live) → live_in es a ≡ Some b → (x : ℕ) → in_run (a / 16) (length_of b.block) x ≡ true → Bears f es b.block.heap (x / 256)
