use Rattle.std.proofs.Common.{arith, length-take}
use Rattle.pas_trace.proofs.TakenLines.{more-lines}
use Rattle.pas_trace.proofs.stream.go_on.Goals as goal

pub lines_after-lines-requires-clause-tells : goal.lines_after-lines-requires-clause-tells
lines_after-lines-requires-clause-tells c = let h = c.requires.1 in (h.items, h.tells)

pub lines_after-lines-requires-clause-size : goal.lines_after-lines-requires-clause-size
lines_after-lines-requires-clause-size c = let few = c.requires.1.few in omega (arith, few, c.requires.2, length-take c.whole_lines-count.result c.args.text.now)

pub returns : goal.returns
returns c =
    search (arith, more-lines)
