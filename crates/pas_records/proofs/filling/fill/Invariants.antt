use Rattle.std.proofs.Common.{◌≡◌, ◌≤◌, ◌*◌, ◌++◌, length, drop}
use Rattle.pas_records.specs.Lines.{lines_of}
use Rattle.pas_records.proofs.filling.fill.Given as goal

-- the lines of the records before this one are on the sheet
abbrev pub invariant-loop-item : goal.invariant-loop-item
invariant-loop-item l = record {
  rest : l.sheet.text.items ++ lines_of (drop l.item-index l.records) ≡ lines_of l.records;
  short : length l.sheet.text.items ≤ 128 * l.item-index;
}
