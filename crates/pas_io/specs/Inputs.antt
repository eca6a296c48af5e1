-- What was read of a source.
use Rattle.std.specs.Prelude.{ℕ, ◌<◌, ◌≤◌, ◌≡◌, List, [], Option, Some, take, drop, length}
use Rattle.pas_io.specs.declared.{reach.Reach.{Reach, TheVariants.{Within, AtEnd}}, whole.Input.{Input, TheVariants.{Whole, TooLong}}}

-- the input is all the bytes that were told, or there are more of them than the limit
abbrev pub IsInput : ℕ → List ℕ → Input → Type 0
IsInput most told (Whole bytes) = (bytes.items ≡ told) × (length told ≤ most)
IsInput most told TooLong = most < length told

-- an input has at most so many bytes, whatever was told
abbrev pub IsShort : ℕ → Input → Type 0
IsShort most (Whole bytes) = length bytes.items ≤ most
IsShort most TooLong = Unit {0}

-- nothing is left of a source whose bytes are all the input
abbrev pub IsReadOut : Input → Option (List ℕ) → Type 0
IsReadOut (Whole bytes) rest = rest ≡ Some []
IsReadOut TooLong rest = Unit {0}

-- the last read met the end where the bytes are all the input, and none did where there are more
abbrev pub IsReadUp : Input → Reach → Type 0
IsReadUp (Whole bytes) reach = reach ≡ AtEnd
IsReadUp TooLong reach = reach ≡ Within

-- n of the bytes were taken, which stand in the buffer's front, and the others are left
pub record HasRead (told : List ℕ) (rest : Option (List ℕ)) (buffer : List ℕ) (n : ℕ) : Type 0 where
  pub within : n ≤ length told
  pub left : rest ≡ Some (drop n told)
  pub front : take n buffer ≡ take n told

-- at most so many of the bytes were taken from the front, and the others are left
pub record Takes (told : List ℕ) (rest : Option (List ℕ)) (most : ℕ) : Type 0 where
  pub number : ℕ
  pub within : number ≤ most
  pub left : rest ≡ Some (drop number told)
