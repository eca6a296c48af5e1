use Rattle.std.proofs.Common.{arith}
use Rattle.pas_trace.proofs.LexedLines.{lexed-more}
use Rattle.pas_trace.proofs.lexing.lex.Goals as goal

pub loop-left-preserved : goal.loop-left-preserved
loop-left-preserved c =
    search (arith, lexed-more)
