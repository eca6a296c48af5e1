use Rattle.std.proofs.Common.{◌+◌, ◌≤◌, List, length}
use Rattle.pas_trace.{specs.{Texts.lines_of, Told.Tells, declared.item.Item.Item}, proofs.LexedLines.SoFar}
use Rattle.pas_trace.proofs.reader.Reader.read_lines.Given as goal

abbrev pub invariant-loop-after : goal.invariant-loop-after
invariant-loop-after l = ((start : List Item) → Tells l.fn.self start → SoFar l.fn.self start (lines_of l.fn.text) l.self (lines_of l.rest)) × (l.self.line + length l.rest ≤ l.fn.self.line + length l.fn.text)

abbrev pub decreases-loop-after : goal.decreases-loop-after
decreases-loop-after l = length l.rest
