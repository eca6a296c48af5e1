-- the lines of the guards so far that go down were taken
use Rattle.std.proofs.Common.{drop, true}
use Rattle.pas_check.specs.{Calls.LinesSwept, Leading.IsWithin}
use Rattle.pas_check.proofs.guarding.take_lowered.Given as goal

abbrev pub invariant-loop-guard : goal.invariant-loop-guard
invariant-loop-guard l = record {
  within : IsWithin l.text l.cursor;
  goes : LinesSwept l.machine l.text l.fn.cursor l.cursor l.guards l.keeper l.all (drop l.guard-index l.guards) true;
}
