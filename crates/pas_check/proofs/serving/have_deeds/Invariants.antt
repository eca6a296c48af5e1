use Rattle.std.proofs.Common.{◌≡◌, List, Some}
use Rattle.pas_profile.specs.declared.event.Event.{Event}
use Rattle.pas_machine.specs.{Machines.StandsFor, Places.IsEach, State.deed_in}
use Rattle.pas_check.proofs.serving.have_deeds.Given as goal

abbrev pub invariant-loop-page : goal.invariant-loop-page
invariant-loop-page l = (es : List Event) → StandsFor l.machine es → IsEach l.from l.page (λ page. deed_in es page ≡ Some l.directory)
