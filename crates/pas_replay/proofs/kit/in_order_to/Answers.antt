use Rattle.std.proofs.{Common.{All, refl, sym, subst, arith, List}, lemmas.List.Elements.All-nil}
use Rattle.pas_replay.proofs.Common.{profile_of, PassStands, PlainPass, plan_operate, plan_fit, names_held, phases_of, replay_of, room_of, plan_valid}
use Rattle.pas_replay.proofs.InOrder.{list_in, start, shows}
use Rattle.pas_acts.proofs.PlanFacts.{plan_phases}
use Rattle.pas_trace.proofs.Keepers.{keepers_few}
use Rattle.pas_replay.proofs.kit.in_order_to.Goals as goal

pub replay-region-requires-clause-phases : goal.replay-region-requires-clause-phases
replay-region-requires-clause-phases g c =
    let may = c.requires.plan.2 in
    omega (arith, list_in g.P.Operations.ops c.args.course.now.phases.now (phases_of c.requires.plan.1) may.same.phases, plan_phases may.read may.short)

pub replay-region-requires-clause-books : goal.replay-region-requires-clause-books
replay-region-requires-clause-books g c = search (arith, keepers_few)

pub replay-region-requires-clause-so_far : goal.replay-region-requires-clause-so_far
replay-region-requires-clause-so_far g c =
    let plan = c.requires.plan.1 in
    let may = c.requires.plan.2 in
    (phases_of plan, may.same.phases, replay_of plan (room_of c.args.out.now), start g.T.Takes.waits refl may.read may.fits c.requires.empty may.room)

pub close-requires : goal.close-requires
close-requires g c =
    let plan = c.requires.plan.1 in
    let may = c.requires.plan.2 in
    let so = c.replay-region.ensures.so_far.2 (phases_of plan) may.same.phases _ (start g.T.Takes.waits refl may.read may.fits c.requires.empty may.room) in
    let part = λ (pass : PlainPass). PassStands (profile_of c.replay-region.result) pass so.0.list in
    record { whole = so.0.list; stands = so.1.stands; parts = subst (λ (ps : List PlainPass). All part ps) (sym may.fits.none_left) (All-nil part) }

pub returns : goal.returns
returns g c =
    let told = c.replay-region.ensures.so_far in
    let room = room_of c.args.out.now in (
      told.0,
      told.1,
      λ text plan may.
          let so = told.2 (phases_of plan) may.same.phases (replay_of plan room) (start g.T.Takes.waits refl may.read may.fits c.requires.empty may.room) in
          let held = names_held c.args.kit.names in
          shows g.T.Takes.waits told.0 room {plan = plan} c.replay-region.new.actors c.replay-region.new.names held (plan_valid may.read) (plan_operate may.read)
          (plan_fit may.read held may.fits.names) so c.replay-region.ensures.empty c.replay-region.ensures.lowered c.close.ensures.profile c.close.ensures.words,
    )
