-- A text that goes out in pieces.
use Rattle.std.proofs.Common.{◌≡◌, ℕ, ◌+◌, ◌-◌, List, [], ◌++◌, Option, ap, sym, ◌∙◌, subst, append_assoc, append-nil, arith}
use Rattle.pas_io.{specs.Told.{Writes, WritesFront}, proofs.Telling.writes_more}
use Rattle.pas_records.specs.Pieces.{IsPutOut}

-- a text that was written whole
pub flushed : (before now after : Option (List ℕ)) (waiting text : List ℕ) → IsPutOut before now waiting text → Writes now after waiting
    → Writes before after text
flushed before now after waiting text out wrote = subst (Writes before after) (sym out.text_is) (writes_more before now after out.written waiting out.writes wrote)

-- all that waited was written
pub put_all : (before now after : Option (List ℕ)) (waiting waiting' text : List ℕ) → waiting' ≡ [] → IsPutOut before now waiting text
    → Writes now after waiting → IsPutOut before after waiting' text
put_all before now after waiting waiting' text none out wrote = record {
  written = text;
  text_is = sym (append-nil text) ∙ ap (λ (t : List ℕ). text ++ t) (sym none);
  writes = flushed before now after waiting text out wrote;
}

-- a line more waits
pub put_more : (before now : Option (List ℕ)) (waiting waiting' text line : List ℕ) → waiting' ≡ waiting ++ line → IsPutOut before now waiting text
    → IsPutOut before now waiting' (text ++ line)
put_more before now waiting waiting' text line is out = search (arith, append_assoc)

-- a failed write
pub front_out : (before now after : Option (List ℕ)) (waiting text : List ℕ) → IsPutOut before now waiting text → WritesFront now after waiting
    → WritesFront before after text
front_out before now after waiting text out (front, back, is, wrote) = (
  out.written ++ front,
  back,
  out.text_is ∙ ap (λ (t : List ℕ). out.written ++ t) is
      ∙ sym (append_assoc out.written front back),
  writes_more before now after out.written front out.writes wrote,
)

-- A first part that was written of a text is one of each longer text.
pub front_longer : (before after : Option (List ℕ)) (text more whole : List ℕ) → whole ≡ text ++ more → WritesFront before after text
    → WritesFront before after whole
front_longer before after text more whole longer (front, back, is, wrote) = (front, back ++ more, longer ∙ ap (λ (t : List ℕ). t ++ more) is ∙ append_assoc front back more, wrote)
