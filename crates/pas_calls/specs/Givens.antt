-- What is read of a source for the script of its text.
use Rattle.std.specs.Prelude.{ℕ, ◌<◌, ◌≤◌, ◌≡◌, List, Option, Some, Err, length}
use Rattle.pas_trace.specs.{Plans.parsed, Scripts.IsScriptOf}
use Rattle.pas_calls.specs.{Outputs.most_bytes, declared.reading.Given.{Given, TheVariants.{Trace, Faulty, TooLong}}}

-- an input may be this text; where the source told its bytes, it is all of them
pub record IsAllOf (rest : Option (List ℕ)) (text : List ℕ) : Type 0 where
  pub short : length text ≤ most_bytes
  pub all : (bytes : List ℕ) → rest ≡ Some bytes → text ≡ bytes

-- the script of the text, or its first fault
abbrev pub IsGivenBy : List ℕ → Given → Type 0
IsGivenBy text (Trace script) = IsScriptOf text script
IsGivenBy text (Faulty fault) = parsed text ≡ Err fault
IsGivenBy text TooLong = ⊥

-- the text was read to its end
abbrev pub IsOver : Given → Type 0
IsOver (Trace script) = Unit {0}
IsOver (Faulty fault) = Unit {0}
IsOver TooLong = ⊥

-- of a text that is all of the source's, or the source has more bytes than an input may have
abbrev pub IsGiven : Option (List ℕ) → Given → Type 0
IsGiven rest (Trace script) = (text : List ℕ) × IsAllOf rest text × IsScriptOf text script
IsGiven rest (Faulty fault) = (text : List ℕ) × IsAllOf rest text × (parsed text ≡ Err fault)
IsGiven rest TooLong = (bytes : List ℕ) → rest ≡ Some bytes → most_bytes < length bytes
