use Rattle.std.proofs.Common.{◌≡◌, true, get_or}
use Rattle.pas_machine.specs.Places.{blank_page, IsEach}
use Rattle.pas_machine.proofs.looking.lacks_backing.Given as goal

abbrev pub invariant-loop-page : goal.invariant-loop-page
invariant-loop-page l = IsEach l.from l.page (λ page. (get_or l.pages page blank_page).backed ≡ true)
