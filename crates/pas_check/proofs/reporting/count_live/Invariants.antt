-- the pages so far
use Rattle.std.proofs.Common.{◌≡◌, ◌*◌, ◌^◌, ◌≤◌, List}
use Rattle.pas_bits.specs.Bits.{count_below}
use Rattle.pas_profile.specs.declared.event.Event.{Event}
use Rattle.pas_machine.specs.{Machines.StandsFor, State.live_in, Totals.{address_at, has_block}}
use Rattle.pas_check.proofs.reporting.count_live.Given as goal

abbrev pub invariant-loop-before : goal.invariant-loop-before
invariant-loop-before l = record {
  living : (es : List Event) → StandsFor l.machine es → l.live ≡ count_below (256 * l.before) (λ i. has_block (live_in es (address_at i)));
  few : l.live ≤ l.before * 2 ^ 16;
}
