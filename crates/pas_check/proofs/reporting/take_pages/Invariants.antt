-- the pages so far were taken
use Rattle.std.proofs.Common.{◌≡◌, ◌+◌, ◌-◌, ◌++◌, List}
use Rattle.pas_machine.specs.Machines.{profile_of, StandsFor}
use Rattle.pas_check.{specs.{Begins.pages_due, Leading.{IsWithin, Leads}, States.{Due, Stand, with_due}}, proofs.Pages.pages_from}
use Rattle.pas_check.proofs.reporting.take_pages.Given as goal

abbrev pub invariant-loop-page : goal.invariant-loop-page
invariant-loop-page l = record {
  within : IsWithin l.text l.cursor;
  led : (s : Stand) (more : List Due) → StandsFor l.machine s.events → s.due ≡ pages_due s.events (profile_of l.machine).pages ++ more
      → Leads (profile_of l.machine) l.text s l.fn.cursor (with_due s (pages_from s.events l.page ((profile_of l.machine).pages + 1 - l.page) ++ more)) l.cursor;
}
