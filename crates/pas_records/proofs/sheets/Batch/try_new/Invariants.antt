-- there is a sheet for each step so far, and a place for each one more
use Rattle.std.proofs.Common.{◌≡◌, ◌≤◌, length, vec_capacity}
use Rattle.pas_records.specs.declared.sheets.TheConstants.{SHEETS}
use Rattle.pas_records.proofs.sheets.Batch.try_new.Given as goal

abbrev pub invariant-loop : goal.invariant-loop
invariant-loop l = record {
  many : length l.sheets.items ≡ l.counter;
  room : SHEETS ≤ vec_capacity l.sheets;
}
