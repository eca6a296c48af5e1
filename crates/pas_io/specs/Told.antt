-- What sources and sinks tell. A source tells the bytes that it has left, and a sink those that it holds, as `Some`; one over standard input or
-- output tells nothing, as `None`. Each counts its faults.
use Rattle.std.specs.Prelude.{ℕ, ◌-◌, ◌^◌, ◌<◌, ◌≤◌, ◌≡◌, ◌⊎◌, List, [], ◌++◌, Option, None, Some, take, drop, length}

-- a count of faults rose in a call: it is greater afterwards, or at its last value
abbrev pub Rose : ℕ → ℕ → Type 0
Rose before after = (before < after) ⊎ (after ≡ 2 ^ 64 - 1)

-- The first n of the bytes that were left went into the buffer. None go only where none were left, or the buffer has no place.
pub record Moves (left : List ℕ) (left' : Option (List ℕ)) (buffer buffer' : List ℕ) (n : ℕ) : Type 0 where
  pub within : n ≤ length left
  pub rest : left' ≡ Some (drop n left)
  pub moved : take n buffer' ≡ take n left
  pub ends : n ≡ 0 → (left ≡ []) ⊎ (buffer ≡ [])

abbrev pub MovesTold : Option (List ℕ) → Option (List ℕ) → List ℕ → List ℕ → ℕ → Type 0
MovesTold None left' buffer buffer' n = Unit {0}
MovesTold (Some left) left' buffer buffer' n = Moves left left' buffer buffer' n

-- what is told stays as it is
abbrev pub KeepsTold : Option (List ℕ) → Option (List ℕ) → Type 0
KeepsTold None after = Unit {0}
KeepsTold (Some told) after = after ≡ Some told

-- the bytes were written, where the sink tells
abbrev pub Writes : Option (List ℕ) → Option (List ℕ) → List ℕ → Type 0
Writes None after bytes = Unit {0}
Writes (Some held) after bytes = after ≡ Some (held ++ bytes)

-- some first part of the bytes was written
abbrev pub WritesFront : Option (List ℕ) → Option (List ℕ) → List ℕ → Type 0
WritesFront before after bytes = (front : List ℕ) × (back : List ℕ) × (bytes ≡ front ++ back) × Writes before after front

-- a text was written for a status and the sink counted no fault, or a first part of it was and the sink's count of faults rose, which is status 4
abbrev pub Tells : Option (List ℕ) → Option (List ℕ) → ℕ → ℕ → List ℕ → ℕ → ℕ → Type 0
Tells before after faults faults' text status answer =
    ((answer ≡ status) × (faults' ≡ faults) × Writes before after text) ⊎ ((answer ≡ 4) × Rose faults faults' × WritesFront before after text)
