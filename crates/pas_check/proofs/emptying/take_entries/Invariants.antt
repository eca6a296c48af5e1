use Rattle.std.proofs.Common.{◌≡◌, true, drop}
use Rattle.pas_machine.specs.Machines.{profile_of}
use Rattle.pas_check.specs.{Calls.EntriesTaken, Leading.IsWithin}
use Rattle.pas_check.proofs.emptying.take_entries.Given as goal

abbrev pub invariant-loop-entry : goal.invariant-loop-entry
invariant-loop-entry l = record {
  profile : profile_of l.machine ≡ profile_of l.fn.machine;
  within : IsWithin l.text l.cursor;
  taken : EntriesTaken l.fn.machine l.machine l.text l.fn.cursor l.cursor l.actor l.log (drop l.entry-index l.log) l.epoch true;
}
