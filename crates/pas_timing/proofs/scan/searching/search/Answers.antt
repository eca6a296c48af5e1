use Rattle.pas_steps.{specs.Desks.AnyView, proofs.Adding.can_call}
use Rattle.pas_timing.proofs.scan.searching.search.Goals as goal

pub returns-then-by_rows-clause-seat : goal.returns-then-by_rows-clause-seat
returns-then-by_rows-clause-seat g c = c.first_offered.ensures.found.adds.seat_is

pub returns-then-by_rows-clause-can : goal.returns-then-by_rows-clause-can
returns-then-by_rows-clause-can g c = can_call {C = AnyView} c.first_offered.ensures.found.adds c.requires.can (λ v l stood met. tt)
