use Rattle.pas_trace.proofs.Telling.{passed-then}
use Rattle.std.proofs.Common.{arith, lt-ltb, eq-eqb}
use Rattle.pas_trace.proofs.reader.Reader.check_request.Goals as goal

pub returns : goal.returns
returns c = search (arith, lt-ltb, eq-eqb, passed-then, c.in_ok-check_sizing.ensures)
