-- Texts that are written one after the other.
use Rattle.std.proofs.Common.{◌≡◌, ℕ, ◌+◌, ◌<◌, List, [], ◌++◌, Option, None, Some, ap, sym, ◌∙◌, append_assoc, append-nil, length, get_or, drop}
use Rattle.std.proofs.lemmas.List.{at_drop_more}
use Rattle.pas_records.specs.{declared.sheets.Sheet.Sheet, Texts.texts_of}
use Rattle.pas_io.{specs.Told.{Writes, WritesFront}, proofs.Telling.writes_more}

-- nothing was written
pub writes_none : (held : Option (List ℕ)) → Writes held held []
writes_none None = tt
writes_none (Some held) = ap Some (sym (append-nil held))

-- the front of a piece, after all that came before it
pub front_more : (before middle after : Option (List ℕ)) (text piece rest whole : List ℕ) → text ++ (piece ++ rest) ≡ whole → Writes before middle text
    → WritesFront middle after piece → WritesFront before after whole
front_more before middle after text piece rest whole is wrote (front, back, piece_is, last) =
    let parts : text ++ (piece ++ rest) ≡ (text ++ front) ++ (back ++ rest) =
    ap (λ (t : List ℕ). text ++ (t ++ rest)) piece_is ∙ ap (λ (t : List ℕ). text ++ t) (append_assoc front back rest) ∙ sym (append_assoc text front (back ++ rest)) in
    (text ++ front, back ++ rest, sym is ∙ parts, writes_more before middle after text front wrote last)

-- the text of one sheet more
pub next_text : (sheets : List Sheet) (i : ℕ) (sheet : Sheet) (text : List ℕ) → i < length sheets → sheet ≡ get_or sheets i sheet
    → text ++ texts_of (drop i sheets) ≡ texts_of sheets → text ++ (sheet.text.items ++ texts_of (drop (i + 1) sheets)) ≡ texts_of sheets
next_text sheets i sheet text within is before = cc (at_drop_more texts_of sheets i sheet within)
