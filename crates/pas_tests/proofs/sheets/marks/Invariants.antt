use Rattle.std.proofs.Common.{All}
use Rattle.pas_records.specs.Lines.{CanShow}
use Rattle.pas_tests.proofs.sheets.marks.Given as goal

abbrev pub invariant-loop-phase : goal.invariant-loop-phase
invariant-loop-phase l = All CanShow l.marks.items
