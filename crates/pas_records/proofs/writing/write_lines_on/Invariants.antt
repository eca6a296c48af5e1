use Rattle.std.proofs.Common.{◌≡◌, ◌++◌, ℕ, List, All}
use Rattle.pas_io.specs.Told.{Writes}
use Rattle.pas_records.specs.{Lines.{CanShow, lines_of}, Texts.texts_of}
use Rattle.pas_records.proofs.writing.write_lines_on.Given as goal

-- the lines of the rounds before this one were written, but those of the last of them, which are on the full sheets
abbrev pub invariant-loop-round : goal.invariant-loop-round
invariant-loop-round g l = record {
  text : List ℕ;
  written : Writes (g.K.Sink.held l.fn.sink) (g.K.Sink.held l.sink) text;
  rest : text ++ (texts_of l.sheets.full.sheets.items ++ lines_of l.round-iterator.rest.now) ≡ lines_of l.records;
  size : l.round-iterator.size ≡ 32768;
  shown : All CanShow l.round-iterator.rest.now;
  count : g.K.Sink.faults l.sink ≡ g.K.Sink.faults l.fn.sink;
}
