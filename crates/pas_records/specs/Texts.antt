-- The records of a round, dealt out to sheets in order, and the text of sheets.
use Rattle.std.specs.Prelude.{ℕ, ◌*◌, List, [], ◌∷◌, ◌++◌, take, drop}
use Rattle.pas_records.specs.declared.{record.Record.Record, sheets.Sheet.Sheet}

-- the records of the sheet at this place
abbrev pub part_of : List Record → ℕ → List Record
part_of round place = take 2048 (drop (place * 2048) round)

-- the texts of sheets, one after the other
abbrev pub texts_of : List Sheet → List ℕ
texts_of [] = []
texts_of (sheet ∷ sheets) = sheet.text.items ++ texts_of sheets
