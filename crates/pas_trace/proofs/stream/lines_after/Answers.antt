use Rattle.pas_trace.proofs.TakenLines.{read-no-more}
use Rattle.pas_trace.proofs.stream.lines_after.Goals as goal

pub returns-in-Err : goal.returns-in-Err
returns-in-Err c items tells = read-no-more c.args.reader c.read_lines.new.self items c.args.text.now c.in-Err.fault (c.in-Err.ensures.read items tells)
