-- the grains so far that no block has
use Rattle.std.proofs.Common.{◌≡◌, ◌+◌, ◌*◌, ◌≤◌, not, List}
use Rattle.pas_bits.specs.Bits.{count_below}
use Rattle.pas_profile.specs.declared.event.Event.{Event}
use Rattle.pas_machine.specs.Machines.{StandsFor}
use Rattle.pas_records.specs.Covered.{is_covered}
use Rattle.pas_check.proofs.reporting.free_on.Given as goal

abbrev pub invariant-loop-grain : goal.invariant-loop-grain
invariant-loop-grain l = record {
  counted : (es : List Event) → StandsFor l.machine es → l.free ≡ count_below l.grain (λ b. not (is_covered es (256 * l.page + b)));
  few : l.free ≤ l.grain;
}
