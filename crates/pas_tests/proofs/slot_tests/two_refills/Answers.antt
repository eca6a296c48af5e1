use Rattle.std.proofs.Common.{arith}
use Rattle.pas_tests.proofs.Besides.{may_search, seated_may_search, beside_first, waits_first, beside_second}
use Rattle.pas_tests.proofs.slot_tests.two_refills.Goals as goal

pub change-desk-requires : goal.change-desk-requires
change-desk-requires c = beside_first c.in_ok-desk.ensures.opens c.fill-first.ensures.steps (may_search _)

pub fill-second-requires-clause-can : goal.fill-second-requires-clause-can
fill-second-requires-clause-can c =
    let w = waits_first c.in_ok-desk.ensures.opens c.fill-first.ensures.steps (may_search _) in
    seated_may_search w c.change-desk.result.0 c.change-desk.ensures.region c.change-desk.ensures.seated _ 1 (omega arith)

pub close_both-requires : goal.close_both-requires
close_both-requires c =
    let w = waits_first c.in_ok-desk.ensures.opens c.fill-first.ensures.steps (may_search _) in let e = c.change-desk.ensures in
    beside_second w _ e.region e.seated e.risen c.fill-second.ensures.steps (may_search _)
