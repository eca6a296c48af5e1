-- no grain so far has a block
use Rattle.std.proofs.Common.{◌≡◌, ℕ, ◌<◌, false, List}
use Rattle.pas_profile.specs.declared.event.Event.{Event}
use Rattle.pas_machine.specs.Machines.{StandsFor}
use Rattle.pas_records.specs.Covered.{is_covered}
use Rattle.pas_check.specs.Shown.{grain_on}
use Rattle.pas_check.proofs.reporting.is_bare.Given as goal

abbrev pub invariant-loop-grain : goal.invariant-loop-grain
invariant-loop-grain l = (es : List Event) → StandsFor l.machine es → (b : ℕ) → b < l.grain → is_covered es (grain_on l.page b) ≡ false
