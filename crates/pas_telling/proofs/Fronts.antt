-- A text that is written after another, and cut off.
use Rattle.std.proofs.Common.{ℕ, List, ◌++◌, append_assoc, Option, ap, ◌∙◌, sym}
use Rattle.pas_io.{specs.Told.{Writes, WritesFront}, proofs.Telling.writes_more}

-- a first part of a text that follows one that was written
pub front_after : (before middle after : Option (List ℕ)) (text more : List ℕ) → Writes before middle text → WritesFront middle after more
    → WritesFront before after (text ++ more)
front_after before middle after text more wrote (front, back, is, part) =
    (text ++ front, back, ap (λ (t : List ℕ). text ++ t) is ∙ sym (append_assoc text front back), writes_more before middle after text front wrote part)
