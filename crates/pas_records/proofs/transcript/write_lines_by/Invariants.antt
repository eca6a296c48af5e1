use Rattle.std.proofs.Common.{◌≡◌, ◌++◌, ℕ, List, drop}
use Rattle.pas_records.specs.{Lines.lines_of, Pieces.IsPutOut}
use Rattle.pas_records.proofs.transcript.write_lines_by.Given as goal

-- the lines of the records before this one were put out
abbrev pub invariant-loop-item : goal.invariant-loop-item
invariant-loop-item g l = record {
  text : List ℕ;
  put_out : IsPutOut (g.K.Sink.held l.fn.sink) (g.K.Sink.held l.sink) l.lines.bytes text;
  rest : text ++ lines_of (drop l.item-index l.records) ≡ lines_of l.records;
  count : g.K.Sink.faults l.sink ≡ g.K.Sink.faults l.fn.sink;
}
