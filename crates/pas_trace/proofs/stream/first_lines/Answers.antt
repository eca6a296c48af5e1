use Rattle.std.proofs.Common.{arith, []}
use Rattle.pas_trace.proofs.TakenLines.{faulty-front, begun-lines}
use Rattle.pas_trace.proofs.stream.first_lines.Goals as goal

pub lines_after-requires-clause-tells : goal.lines_after-requires-clause-tells
lines_after-requires-clause-tells c = ([], c.in-Ok.ensures.tells)

pub lines_after-requires-clause-size : goal.lines_after-requires-clause-size
lines_after-requires-clause-size c = let b = c.in-Ok.ensures in omega (arith, b.tells.line, b.shorter, c.requires.size)

pub returns-in-Ok : goal.returns-in-Ok
returns-in-Ok c =
    search (arith, begun-lines)

pub returns-in-Err : goal.returns-in-Err
returns-in-Err c = faulty-front c.args.text.now c.in-Err.fault c.requires.whole c.requires.some c.in-Err.ensures
