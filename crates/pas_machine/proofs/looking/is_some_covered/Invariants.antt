use Rattle.std.proofs.Common.{◌≡◌, false, get_or}
use Rattle.pas_machine.specs.Places.{IsEach}
use Rattle.pas_machine.proofs.looking.is_some_covered.Given as goal

abbrev pub invariant-loop-grain : goal.invariant-loop-grain
invariant-loop-grain l = IsEach l.from l.grain (λ x. get_or l.covered x false ≡ false)
