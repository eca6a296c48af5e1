-- Classes of small blocks, their slots, and grains. Numbers of grains, where masks are only how the code holds them.
use Rattle.std.specs.Prelude.{ℕ, ◌+◌, ◌*◌, ◌/◌, ◌%◌, ◌<◌, ◌≤◌, ◌≡◌, ◌==◌, nat_lt, Bool, ◌||◌, IsTrue, List, [], ◌∷◌, take, slice_index}

-- the sizes of the classes, in bytes
abbrev pub class_sizes : List ℕ
class_sizes = 16 ∷ 32 ∷ 48 ∷ 64 ∷ 80 ∷ 96 ∷ 112 ∷ 128 ∷ 160 ∷ 192 ∷ 224 ∷ 256 ∷ 320 ∷ 384 ∷ 448 ∷ 512 ∷ 640 ∷ 768 ∷ 896 ∷ 1024 ∷ []

abbrev pub IsClass : ℕ → Type 0
IsClass class = class < 20

-- a region has the first sixteen classes, or all twenty
abbrev pub IsClassCount : ℕ → Type 0
IsClassCount classes = IsTrue ((classes == 16) || (classes == 20))

-- the sizes of the classes of a region that has so many
abbrev pub sizes_of : ℕ → List ℕ
sizes_of classes = take classes class_sizes

-- bytes of a block of the class
abbrev pub class_size : ℕ → ℕ
class_size class = slice_index class_sizes class

-- grains of a block of the class
abbrev pub class_grains : ℕ → ℕ
class_grains class = class_size class / 16

-- how many slots a page of the class has: slot i begins at byte i * size of its page
abbrev pub slots_of : ℕ → ℕ
slots_of class = 4096 / class_size class

-- the grains of a page that slots cover are its first ones
abbrev pub usable_grains : ℕ → ℕ
usable_grains class = slots_of class * class_grains class

abbrev pub is_usable : ℕ → ℕ → Bool
is_usable class grain = nat_lt grain (usable_grains class)

-- an alignment is a power of two from 16 to 4,096
abbrev pub IsAlignment : ℕ → Type 0
IsAlignment align = (16 ≤ align) × (align ≤ 4096) × (4096 % align ≡ 0)

-- the slot of the class begins at this grain of its page
pub record IsSlotStart (class grain : ℕ) : Type 0 where
  pub aligned : grain % class_grains class ≡ 0
  pub within : grain + class_grains class ≤ usable_grains class
