use Rattle.std.proofs.Common.{length, map, ap, arith, subst}
use Rattle.pas_threads.proofs.{Common.{length-map, ops_of, plan_actors, plan_valid, so_far, records_in, HasReplayed}, StartAndEnd.{session_of, handed}}
use Rattle.pas_threads.proofs.StartAndEnd.{all_of_region, shows}
use Rattle.pas_acts.proofs.PlanFacts.{plan_phases, plan_operate}
use Rattle.pas_threads.proofs.whole.on_threads_with_rooms.Goals as goal

pub replay-team-requires-clause-phases : goal.replay-team-requires-clause-phases
replay-team-requires-clause-phases g c =
    let n = ap length c.as_slice.ensures in
    let m = length-map c.as_slice.result.now ops_of in
    omega (arith, m, ap (λ ps. length (map ops_of ps)) c.as_slice.ensures, plan_phases c.requires.plan.2 c.requires.plan.1)

pub replay-team-requires-clause-stands : goal.replay-team-requires-clause-stands
replay-team-requires-clause-stands g c =
    let start = handed c.args.out.now c.as_slice.result.now c.requires.plan.2 c.requires.kit c.as_slice.ensures c.requires.empty c.requires.room in
    λ lifetimes outlive. (session_of c.args.plan.now, start.0, start.1)

pub passes_of-passes-requires-clause-stands : goal.passes_of-passes-requires-clause-stands
passes_of-passes-requires-clause-stands g c =
    let plan = c.args.plan.now in
    let start = handed c.args.out.now c.as_slice.result.now c.requires.plan.2 c.requires.kit c.as_slice.ensures c.requires.empty c.requires.room in
    let replayed = c.replay-team.ensures.replayed (session_of plan) start.0 start.1 in
    (c.args.kit.region, session_of plan, replayed.end, replayed.stands, omega (arith, plan_actors plan, c.requires.kit.place))

pub close_settled-requires-clause-passes : goal.close_settled-requires-clause-passes
close_settled-requires-clause-passes g c =
    let start = handed c.args.out.now c.as_slice.result.now c.requires.plan.2 c.requires.kit c.as_slice.ensures c.requires.empty c.requires.room in
    all_of_region
    (c.replay-team.ensures.replayed (session_of c.args.plan.now) start.0 start.1).stands c.passes_of-passes.result.items c.passes_of-passes.ensures

pub returns : goal.returns
returns g c =
    let start = handed c.args.out.now c.as_slice.result.now c.requires.plan.2 c.requires.kit c.as_slice.ensures c.requires.empty c.requires.room in
    let handed_so = c.replay-team.ensures.replayed (session_of c.args.plan.now) start.0 start.1 in
    let replayed = subst (λ ps. HasReplayed c.args.kit.region (session_of c.args.plan.now) (map ops_of ps) (so_far c.replay-team.new.ledger)
    c.replay-team.result (records_in c.replay-team.new.out)) c.as_slice.ensures handed_so in
    shows {plan = c.args.plan.now} c.passes_of-passes.result.items (plan_valid c.requires.plan.2)
    (plan_operate c.requires.plan.2) c.requires.kit.profile replayed c.passes_of-passes.ensures c.close_settled.ensures
