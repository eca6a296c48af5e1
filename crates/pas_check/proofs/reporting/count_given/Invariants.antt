-- the pages so far
use Rattle.std.proofs.Common.{◌≡◌, ◌*◌, ◌^◌, ◌≤◌, List}
use Rattle.pas_profile.specs.declared.event.Event.{Event}
use Rattle.pas_machine.specs.{Machines.StandsFor, State.gives_in, Totals.{address_at, sum_below}}
use Rattle.pas_check.proofs.reporting.count_given.Given as goal

abbrev pub invariant-loop-before : goal.invariant-loop-before
invariant-loop-before l = record {
  gave : (es : List Event) → StandsFor l.machine es → l.given ≡ sum_below (256 * l.before) (λ i. gives_in es (address_at i));
  few : l.given ≤ l.before * 2 ^ 32;
}
