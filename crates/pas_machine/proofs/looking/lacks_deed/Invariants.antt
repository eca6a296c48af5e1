use Rattle.std.proofs.Common.{get_or}
use Rattle.pas_machine.specs.Places.{blank_page, IsOfHeap, IsEach}
use Rattle.pas_machine.proofs.looking.lacks_deed.Given as goal

abbrev pub invariant-loop-page : goal.invariant-loop-page
invariant-loop-page l = IsEach l.from l.page (λ page. IsOfHeap l.heap (get_or l.pages page blank_page).directory)
