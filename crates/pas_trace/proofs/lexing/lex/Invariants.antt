use Rattle.std.proofs.Common.{length}
use Rattle.pas_trace.specs.Lexed.{AreLexed}
use Rattle.pas_trace.proofs.lexing.lex.Given as goal

abbrev pub invariant-loop-left : goal.invariant-loop-left
invariant-loop-left l = AreLexed l.version l.text l.items.items l.left

abbrev pub decreases-loop-left : goal.decreases-loop-left
decreases-loop-left l = length l.left
