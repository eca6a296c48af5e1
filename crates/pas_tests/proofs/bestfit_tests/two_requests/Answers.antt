use Rattle.std.proofs.Common.{ℕ, ◌++◌, Bool, Result, arith}
use Rattle.pas_bestfit.specs.Allocates.{bestfit_directory, Allocates}
use Rattle.pas_profile.specs.declared.{event.NoRoom.NoRoom, name.Block.Block}
use Rattle.pas_search.specs.Searches.{MaySearch}
use Rattle.pas_steps.specs.Desks.{Standing}
use Rattle.pas_trials.specs.Filling.{Steps}
use Rattle.pas_tests.proofs.Besides.{may_search, seated_may_search, beside_first, waits_first, beside_second}
use Rattle.pas_tests.proofs.bestfit_tests.two_requests.Goals as goal

steps_of : {heap bytes : ℕ} {tells : Bool} {σ σ' : Standing} {answer : Result Block NoRoom} → Allocates heap bytes tells σ σ' answer
    → Steps σ σ' (MaySearch (bestfit_directory heap))
steps_of allocates = record { steps = allocates.by_run.after ++ allocates.by_run.searched; adds = allocates.by_run.adds }

pub change-desk-requires : goal.change-desk-requires
change-desk-requires c = beside_first c.in_ok-desk.ensures.opens (steps_of c.alloc-first.ensures.allocates) (may_search _)

pub alloc-second-requires-clause-can : goal.alloc-second-requires-clause-can
alloc-second-requires-clause-can c =
    let w = waits_first c.in_ok-desk.ensures.opens (steps_of c.alloc-first.ensures.allocates) (may_search _) in
    seated_may_search w c.change-desk.result.0 c.change-desk.ensures.region c.change-desk.ensures.seated _ 2 (omega arith)

pub close_both-requires : goal.close_both-requires
close_both-requires c =
    let w = waits_first c.in_ok-desk.ensures.opens (steps_of c.alloc-first.ensures.allocates) (may_search _) in let e = c.change-desk.ensures in
    beside_second w _ e.region e.seated e.risen (steps_of c.alloc-second.ensures.allocates) (may_search _)
