use Rattle.std.proofs.Common.{arith}
use Rattle.pas_plain.specs.Seats.{standing_of}
use Rattle.pas_steps.specs.Desks.{AnyView}
use Rattle.pas_trials.specs.Filling.{Steps}
use Rattle.pas_tests.proofs.Besides.{may_search, seated_may_search, beside_first, waits_first, beside_second}
use Rattle.pas_tests.proofs.slot_tests.refill_beside.Goals as goal

pub change-desk-requires : goal.change-desk-requires
change-desk-requires c =
    let b = c.visit.ensures.brings in
    let taken : Steps (standing_of c.in_ok-desk.desk) (standing_of c.visit.new.desk) AnyView = record { steps = b.steps; adds = b.calls.adds } in
    beside_first c.in_ok-desk.ensures.opens taken tt

pub fill-filled-requires-clause-can : goal.fill-filled-requires-clause-can
fill-filled-requires-clause-can c =
    let b = c.visit.ensures.brings in
    let taken : Steps (standing_of c.in_ok-desk.desk) (standing_of c.visit.new.desk) AnyView = record { steps = b.steps; adds = b.calls.adds } in
    let w = waits_first c.in_ok-desk.ensures.opens taken tt in
    seated_may_search w c.change-desk.result.0 c.change-desk.ensures.region c.change-desk.ensures.seated _ 1 (omega arith)

pub close_both-requires : goal.close_both-requires
close_both-requires c =
    let b = c.visit.ensures.brings in
    let taken : Steps (standing_of c.in_ok-desk.desk) (standing_of c.visit.new.desk) AnyView = record { steps = b.steps; adds = b.calls.adds } in
    let w = waits_first c.in_ok-desk.ensures.opens taken tt in let e = c.change-desk.ensures in
    beside_second w _ e.region e.seated e.risen c.fill-filled.ensures.steps (may_search _)
