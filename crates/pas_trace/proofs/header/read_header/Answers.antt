use Rattle.std.proofs.Common.{arith}
use Rattle.pas_trace.proofs.ParsedItems.{short4, short6, short8}
use Rattle.pas_trace.proofs.header.read_header.Goals as goal

pub returns-in_err-threads_label : goal.returns-in_err-threads_label
returns-in_err-threads_label c = search (arith, short4, c.from_residual-in_err-threads_label.ensures, c.in_err-threads_label.ensures)

pub returns-in_err-heaps_label : goal.returns-in_err-heaps_label
returns-in_err-heaps_label c = search (arith, short6, c.from_residual-in_err-heaps_label.ensures, c.in_err-heaps_label.ensures)

pub returns-in_err-age_label : goal.returns-in_err-age_label
returns-in_err-age_label c = search (arith, short8, c.from_residual-in_err-age_label.ensures, c.in_err-age_label.ensures)
