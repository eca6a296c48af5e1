-- A text that goes out in pieces: some of it was written, and the rest waits in a piece.
use Rattle.std.specs.Prelude.{ℕ, ◌≡◌, List, ◌++◌, Option}
use Rattle.pas_io.specs.Told.{Writes}

-- from what a sink held before to what it holds now, and the bytes that wait, the text is put out
pub record IsPutOut (before now : Option (List ℕ)) (waiting text : List ℕ) : Type 0 where
  pub written : List ℕ
  pub text_is : text ≡ written ++ waiting
  pub writes : Writes before now written
