-- the grains so far
use Rattle.std.proofs.Common.{◌≡◌, ◌+◌, ◌*◌, ◌^◌, ◌≤◌, List}
use Rattle.pas_profile.specs.declared.event.Event.{Event}
use Rattle.pas_machine.specs.{Machines.StandsFor, State.gives_in, Totals.sum_below}
use Rattle.pas_check.proofs.reporting.given_on.Given as goal

abbrev pub invariant-loop-grain : goal.invariant-loop-grain
invariant-loop-grain l = record {
  gave : (es : List Event) → StandsFor l.machine es → l.given ≡ sum_below l.grain (λ b. gives_in es (16 * (256 * l.page + b)));
  few : l.given ≤ l.grain * 2 ^ 24;
}
