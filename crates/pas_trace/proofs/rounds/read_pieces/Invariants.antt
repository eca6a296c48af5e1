use Rattle.std.proofs.Common.{◌≤◌, ◌+◌, ◌++◌, ℕ, List, length}
use Rattle.pas_trace.{specs.{Lexed.AreLexed, Texts.lines_of, Told.Tells, declared.item.Item.Item}, proofs.LexedLines.SoFar}
use Rattle.pas_trace.proofs.rounds.read_pieces.Given as goal

abbrev pub invariant-loop-rest : goal.invariant-loop-rest
invariant-loop-rest g l = record {
  piece : List ℕ;
  lexed : AreLexed l.fn.reader.header.version piece l.full.items l.left;
  far : (told : List Item) → Tells l.fn.reader told → SoFar l.fn.reader told (lines_of l.fn.text) l.reader (lines_of piece ++ lines_of l.rest);
  size : l.reader.line + length piece + length l.rest ≤ 16777217;
}

abbrev pub decreases-loop-rest : goal.decreases-loop-rest
decreases-loop-rest g l = length l.rest
