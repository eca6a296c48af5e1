use Rattle.std.proofs.Common.{sym}
use Rattle.pas_trace.proofs.ParsedItems.{header_valid}
use Rattle.pas_trace.proofs.header.header_of_text.Goals as goal

pub returns-clause-valid : goal.returns-clause-valid
returns-clause-valid c = header_valid c.in_ok-line.line.now c.in_ok-header.header (sym c.in_ok-header.ensures)
