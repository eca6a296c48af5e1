-- How a call that reads its input ended.
use Rattle.std.specs.Prelude.{ℕ, ◌≡◌, ◌⊎◌, List, Option, Some}
use Rattle.pas_io.specs.Told.{Tells}
use Rattle.pas_answers.specs.Ways.{Way}
use Rattle.pas_calls.specs.Outputs.{ChecksTo, ComesTo, HasFailed, IsCheckStatus, IsReplayStatus}

-- what the input comes to was told, with a status that such a call may tell; the source told `rest` before
pub record TellsInput (MayTell : ℕ → Type 0) (Comes : List ℕ → ℕ → List ℕ → Type 0) (rest held held' : Option (List ℕ)) (faults faults' result : ℕ) : Type 0
  where
    pub status : ℕ
    pub text : List ℕ
    pub status_is : MayTell status
    pub comes : (bytes : List ℕ) → rest ≡ Some bytes → Comes bytes status text
    pub tells : Tells held held' faults faults' text status result

-- memory was wanting; or a read failed; or what the input comes to was told
abbrev pub Ends : (ℕ → Type 0) → (List ℕ → ℕ → List ℕ → Type 0) → Option (List ℕ) → Option (List ℕ) → ℕ → ℕ → Option (List ℕ) → Option (List ℕ) → ℕ → ℕ → ℕ
    → Type 0
Ends MayTell Comes rest rest' misses misses' held held' faults faults' result =
    (result ≡ 5) ⊎ ((result ≡ 3) × HasFailed rest rest' misses misses') ⊎ TellsInput MayTell Comes rest held held' faults faults' result

-- .. of a check
abbrev pub EndsCheck : Option (List ℕ) → Option (List ℕ) → ℕ → ℕ → Option (List ℕ) → Option (List ℕ) → ℕ → ℕ → ℕ → Type 0
EndsCheck rest rest' misses misses' held held' faults faults' result = Ends IsCheckStatus ChecksTo rest rest' misses misses' held held' faults faults' result

-- .. of a replay in this way
abbrev pub EndsReplay : Way → Option (List ℕ) → Option (List ℕ) → ℕ → ℕ → Option (List ℕ) → Option (List ℕ) → ℕ → ℕ → ℕ → Type 0
EndsReplay way rest rest' misses misses' held held' faults faults' result =
    Ends IsReplayStatus (ComesTo way) rest rest' misses misses' held held' faults faults' result
