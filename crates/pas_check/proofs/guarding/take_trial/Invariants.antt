use Rattle.std.proofs.Common.{◌≡◌, ◌-◌, length}
use Rattle.pas_machine.specs.Machines.{profile_of}
use Rattle.pas_check.specs.{Calls.TrialGoes, Leading.IsWithin}
use Rattle.pas_check.proofs.guarding.take_trial.Given as goal

abbrev pub invariant-lines : goal.invariant-lines
invariant-lines l = record {
  profile : profile_of l.machine ≡ profile_of l.fn.machine;
  within : IsWithin l.text l.cursor;
  goes : TrialGoes l.fn.machine l.machine l.text l.fn.cursor l.cursor l.keeper l.wanted l.backed;
}

abbrev pub decreases-lines : goal.decreases-lines
decreases-lines l = length l.text - l.cursor.bytes
