-- the pages so far
use Rattle.std.proofs.Common.{◌≡◌, ◌≤◌, List}
use Rattle.pas_bits.specs.Bits.{count_below}
use Rattle.pas_profile.specs.declared.event.Event.{Event}
use Rattle.pas_machine.specs.{Machines.StandsFor, State.{backed_in, deed_in}, Totals.{has_deed, page_at}}
use Rattle.pas_check.proofs.reporting.count_pages.Given as goal

abbrev pub invariant-loop-before : goal.invariant-loop-before
invariant-loop-before l = record {
  with_deed : (es : List Event) → StandsFor l.machine es → l.deeds ≡ count_below l.before (λ i. has_deed (deed_in es (page_at i)));
  with_memory : (es : List Event) → StandsFor l.machine es → l.backed ≡ count_below l.before (λ i. backed_in es (page_at i));
  few_deeds : l.deeds ≤ l.before;
  few_backed : l.backed ≤ l.before;
}
