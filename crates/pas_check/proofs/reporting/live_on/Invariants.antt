-- the blocks at the grains so far
use Rattle.std.proofs.Common.{◌≡◌, ◌+◌, ◌*◌, ◌≤◌, List}
use Rattle.pas_bits.specs.Bits.{count_below}
use Rattle.pas_profile.specs.declared.event.Event.{Event}
use Rattle.pas_machine.specs.{Machines.StandsFor, State.live_in, Totals.has_block}
use Rattle.pas_check.proofs.reporting.live_on.Given as goal

abbrev pub invariant-loop-grain : goal.invariant-loop-grain
invariant-loop-grain l = record {
  counted : (es : List Event) → StandsFor l.machine es → l.live ≡ count_below l.grain (λ b. has_block (live_in es (16 * (256 * l.page + b))));
  few : l.live ≤ l.grain;
}
