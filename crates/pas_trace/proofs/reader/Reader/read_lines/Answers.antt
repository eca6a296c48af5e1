use Rattle.std.proofs.Common.{arith}
use Rattle.pas_trace.{specs.Texts.lines_of, proofs.LexedLines.at-first}
use Rattle.pas_trace.proofs.reader.Reader.read_lines.Goals as goal

pub loop-after-init : goal.loop-after-init
loop-after-init c = (λ start t. at-first c.args.self.now start (lines_of c.args.text.now) t, omega arith)
