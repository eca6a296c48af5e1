use Rattle.std.proofs.Common.{sym}
use Rattle.pas_trace.proofs.ParsedItems.{header_valid}
use Rattle.pas_trace.proofs.reader.begun.Goals as goal

pub new-requires-clause-valid : goal.new-requires-clause-valid
new-requires-clause-valid c = header_valid c.in-Some.line.now c.in-Some-read_header.header (sym c.in-Some-read_header.ensures)

pub new-requires-clause-first : goal.new-requires-clause-first
new-requires-clause-first c = c.requires
