use Rattle.std.proofs.{Common.{add-one, length-drop, arith}, Math.Seq.drop-length, lemmas.List.take_rest}
use Rattle.pas_trace.proofs.WordLines.{pieces-found, end-after, lines-last}
use Rattle.pas_trace.proofs.lines.next_line.Goals as goal

pub returns-then-end-text : goal.returns-then-end-text
returns-then-end-text c = search (arith, take_rest, drop-length, lines-last, c.piece_length-end.ensures.before)

pub returns-else-end-text : goal.returns-else-end-text
returns-else-end-text c = search (arith, take_rest, pieces-found, end-after, add-one, length-drop, c.piece_length-end.ensures)
