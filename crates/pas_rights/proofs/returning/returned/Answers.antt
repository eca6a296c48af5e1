use Rattle.std.proofs.Common.{[], None, refl}
use Rattle.pas_steps.proofs.Adding.{adds_none}
use Rattle.pas_rights.proofs.Orders.{returned_by}
use Rattle.pas_rights.proofs.returning.returned.Goals as goal

pub returns-in-None-clause-returns : goal.returns-in-None-clause-returns
returns-in-None-clause-returns g c = let h = c.hint_backed.ensures.hinted in returned_by _ _ None c.reoffer.ensures.reoffers c.in-None.ensures.reads h.steps h.adds h.order

pub returns-in-Some-clause-returns : goal.returns-in-Some-clause-returns
returns-in-Some-clause-returns g c = returned_by _ _ _ c.reoffer.ensures.reoffers c.in-Some.ensures.reads [] adds_none refl
