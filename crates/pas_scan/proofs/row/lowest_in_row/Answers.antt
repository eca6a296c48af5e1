use Rattle.pas_scan.proofs.Reading.{within_none, empty_none, lowest_shown}
use Rattle.pas_scan.proofs.row.lowest_in_row.Goals as goal

pub returns-then-not-any_and_not : goal.returns-then-not-any_and_not
returns-then-not-any_and_not c = within_none _ _ _ _ c.told-row c.requires.next c.pages_below.type_inv c.pages_below.ensures c.if-not-any_and_not.ensures

pub returns-in_err-first : goal.returns-in_err-first
returns-in_err-first c = rw c.from_residual.ensures (empty_none _ _ _ _ c.told-row c.requires.next c.pages_below.type_inv c.pages_below.ensures c.in_err-first.ensures)

pub returns : goal.returns
returns c = lowest_shown _ _ _ _ c.told-row c.requires.next c.pages_below.type_inv c.pages_below.ensures c.in_ok-first.first c.in_ok-first.ensures
