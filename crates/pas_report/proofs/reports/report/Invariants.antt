use Rattle.std.proofs.Common.{◌≡◌, ◌-◌}
use Rattle.pas_records.specs.Pieces.{IsPutOut}
use Rattle.pas_report.proofs.Pieces.{so_far}
use Rattle.pas_report.proofs.reports.report.Given as goal

-- the lines of the pages before this one were put out
abbrev pub invariant-loop-page : goal.invariant-loop-page
invariant-loop-page g l = record {
  put_out : IsPutOut (g.K.Sink.held l.fn.sink) (g.K.Sink.held l.sink) l.lines.bytes (so_far l.state (l.page - 1));
  count : g.K.Sink.faults l.sink ≡ g.K.Sink.faults l.fn.sink;
}
