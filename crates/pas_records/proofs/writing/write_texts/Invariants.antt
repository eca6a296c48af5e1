use Rattle.std.proofs.Common.{◌≡◌, ◌++◌, ℕ, List, drop}
use Rattle.pas_io.specs.Told.{Writes}
use Rattle.pas_records.specs.Texts.{texts_of}
use Rattle.pas_records.proofs.writing.write_texts.Given as goal

-- the texts of the sheets before this one were written
abbrev pub invariant-loop-sheet : goal.invariant-loop-sheet
invariant-loop-sheet g l = record {
  text : List ℕ;
  written : Writes (g.K.Sink.held l.fn.sink) (g.K.Sink.held l.sink) text;
  rest : text ++ texts_of (drop l.sheet-index l.sheets) ≡ texts_of l.sheets;
  count : g.K.Sink.faults l.sink ≡ g.K.Sink.faults l.fn.sink;
}
