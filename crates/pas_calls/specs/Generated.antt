-- What a call for a generated trace told its sink.
use Rattle.std.specs.Prelude.{ℕ, ◌≡◌, ◌⊎◌, List, Option}
use Rattle.pas_io.specs.Told.{Tells}
use Rattle.pas_calls.specs.Outputs.{GenComesTo}

-- memory was wanting, or what the trace comes to was told
abbrev pub Generates : Option (List ℕ) → Option (List ℕ) → ℕ → ℕ → ℕ → ℕ → ℕ → ℕ → ℕ → Type 0
Generates held held' faults faults' seed ops threads pages result = (result ≡ 5) ⊎ ((status : ℕ) × (text : List ℕ) × GenComesTo seed ops threads pages status text × Tells held held' faults faults' text status result)
