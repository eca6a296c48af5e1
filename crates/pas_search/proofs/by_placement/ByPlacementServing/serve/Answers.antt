use Rattle.std.proofs.Common.{arith, false}
use Rattle.pas_bits.specs.Masks.{is_set}
use Rattle.pas_search.proofs.{ForBackEnds.room_kept, Pages.{placed_fits, unfit, run_chosen, quiet_by, can_leave, can_back, looked_at, leaves_unfit, can_take}}
use Rattle.pas_search.{proofs.Pages.{taken_from, keeps_chosen}, specs.Placements.{by_run, placing}}
use Rattle.pas_search.proofs.by_placement.ByPlacementServing.serve.Goals as goal

pub leave-requires-clause-can : goal.leave-requires-clause-can
leave-requires-clause-can g c = let p = g.P.Placing.placement c.args.self.now.0 in let free = c.read-free.result in can_leave (placing p) c.args.page _
    (is_set free) (λ b. false) (looked_at (by_run p) c.args.page c.args.directory free c.read-free.ensures.reads) c.requires.can

pub returns-in_default-clause-serves : goal.returns-in_default-clause-serves
returns-in_default-clause-serves g c =
    let p = g.P.Placing.placement c.args.self.now.0 in let is = g.met.P.Placing.is_placement c.args.self.now.0 in let free = c.read-free.result in
    leaves_unfit (by_run p) c.args.page c.args.directory free c.read-free.ensures.reads (unfit p is c.requires.suits.0 free c.in_default.ensures) c.leave.ensures.leaves

pub run-requires : goal.run-requires
run-requires g c =
    let p = g.P.Placing.placement c.args.self.now.0 in let is = g.met.P.Placing.is_placement c.args.self.now.0 in
    (placed_fits p is c.requires.suits.0 (is_set c.read-free.result) c.in-Some.run' c.in-Some.ensures).within

pub take-requires-clause-can : goal.take-requires-clause-can
take-requires-clause-can g c = can_take (by_run (g.P.Placing.placement c.args.self.now.0)) c.args.page c.args.directory c.read-free.result c.read-free.ensures.reads c.requires.can

pub back-requires-clause-can : goal.back-requires-clause-can
back-requires-clause-can g c =
    let p = g.P.Placing.placement c.args.self.now.0 in let is = g.met.P.Placing.is_placement c.args.self.now.0 in
    let page = c.args.page in let d = c.args.directory in let free = c.read-free.result in let run = c.in-Some.run' in
    let so = run_chosen p is c.requires.suits.0 free run c.run.result c.in-Some.ensures c.run.ensures in
    can_back (placing p) page d _ _ (taken_from (by_run p) page d free c.read-free.ensures.reads run _ so _ c.take.ensures.takes) so.some c.requires.can c.requires.page

pub back-requires-clause-room : goal.back-requires-clause-room
back-requires-clause-room g c =
    search (arith, run_chosen, taken_from, room_kept, quiet_by, g.P.Placing.placement, g.met.P.Placing.is_placement, g.met.D.Desk.spares)

pub returns-clause-serves : goal.returns-clause-serves
returns-clause-serves g c =
    let p = g.P.Placing.placement _ in let is = g.met.P.Placing.is_placement c.args.self.now.0 in let free = c.read-free.result in let run = c.in-Some.run' in
    let so = run_chosen p is c.requires.suits.0 free run c.run.result c.in-Some.ensures c.run.ensures in
    keeps_chosen (by_run p) c.args.page _ free c.read-free.ensures.reads run c.run.result so _ c.take.ensures.takes c.back.result c.back.ensures.makes
