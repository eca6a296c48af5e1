use Rattle.std.proofs.Common.{arith}
use Rattle.pas_trace.proofs.WordLines.{lines-from}
use Rattle.pas_trace.proofs.rounds.cut.Goals as goal

pub returns-clause-lines : goal.returns-clause-lines
returns-clause-lines c = search (arith, lines-from, c.piece_length-end.ensures, c.split_at-2.ensures)
