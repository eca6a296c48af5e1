use Rattle.std.proofs.Common.{◌≡◌, ◌≤◌, ◌^◌, List, [], length, ap, sym, arith}
use Rattle.pas_profile.specs.declared.profile.Profile.{Profile}
use Rattle.pas_machine.specs.Machines.{profile_of}
use Rattle.pas_trace.{specs.declared.plan.Phase.Phase, proofs.{EveryPlan.every_plan, Keepers.keepers_few}}
use Rattle.pas_check.{specs.{Begins.report_due, Checks.IsSoFar, States.at_first}, proofs.Actings.{acts_amiss, acts_on, ended_well, goes_on, known}}
use Rattle.pas_check.proofs.{Actings.{opening_within, plan_few, planned_there, report_amiss, reported}, whole.check.Goals.Else-not-take_acts}
use Rattle.pas_check.proofs.whole.check.Goals as goal

pub try_new-requires : goal.try_new-requires
try_new-requires c = (every_plan c.requires.plan.2).valid

pub take_acts-requires-clause-few : goal.take_acts-requires-clause-few
take_acts-requires-clause-few c =
    let few = plan_few c.requires.plan.0 c.args.plan.now c.requires.plan.2 c.requires.plan.1 in
    let same = ap (λ (ps : List Phase). length ps) c.as_slice-phases.ensures in
    omega (arith, few, same)

pub take_acts-requires-clause-planned : goal.take_acts-requires-clause-planned
take_acts-requires-clause-planned c = planned_there c.requires.plan.2 c.in-Ok.ensures c.as_slice-phases.ensures

pub returns-then-not-take_acts : goal.returns-then-not-take_acts
returns-then-not-take_acts c =
    acts_amiss c.requires.plan.2 c.requires.plan.1 c.in-Ok.ensures (opening_within c.args.transcript.now c.requires.short)
    c.first-cursor.ensures c.as_slice-phases.ensures c.keeper_count-keepers.ensures c.if-not-take_acts.ensures.taken c.if-judge.false

-- after the acts
so_far : (c : Else-not-take_acts) → IsSoFar c.args.plan.now.profile c.args.transcript.now (at_first c.args.plan.now) c.take_acts.new.judge
    c.take_acts.new.cursor []
so_far c =
    acts_on c.requires.plan.2 c.requires.plan.1 c.in-Ok.ensures (opening_within c.args.transcript.now c.requires.short)
    c.first-cursor.ensures c.as_slice-phases.ensures c.keeper_count-keepers.ensures c.if-not-take_acts.ensures.taken

-- its report
reports : (c : Else-not-take_acts) → report_due (profile_of c.take_acts.new.judge.machine) (so_far c).stand.events ≡ report_due c.args.plan.now.profile
    (so_far c).stand.events
reports c = ap (λ (f : Profile). report_due f (so_far c).stand.events) (so_far c).stands.profile

pub take_report-requires-clause-known : goal.take_report-requires-clause-known
take_report-requires-clause-known c =
    let d = (goal.at.take_report-requires-clause-known c).Else-not-take_acts in
    let within = c.if-not-take_acts.ensures.within in
    let low : c.take_acts.new.cursor.lines ≤ 2 ^ 24 = (omega (arith, within.lines, within.bytes, c.requires.short)) in
    known c.args.plan.now (so_far d) low

pub returns-then-not-take_report : goal.returns-then-not-take_report
returns-then-not-take_report c =
    let d = (goal.at.returns-then-not-take_report c).Else-not-take_acts in
    let so = so_far d in
    report_amiss c.args.plan.now so c.take_report.new.cursor so.stands.profile
    (c.if-not-take_report.ensures.led (reported c.args.plan.now so) so.stands.events (sym (reports d)))

pub returns-in-None : goal.returns-in-None
returns-in-None c =
    let d = (goal.at.returns-in-None c).Else-not-take_acts in
    let so = so_far d in
    ended_well c.args.plan.now so c.take_report.new.cursor so.stands.profile
    (c.if-not-take_report.ensures.led (reported c.args.plan.now so) so.stands.events (sym (reports d))) c.in-None.ensures.none

pub returns : goal.returns
returns c =
    let d = (goal.at.returns c).Else-not-take_acts in
    let so = so_far d in
    goes_on c.args.plan.now so c.take_report.new.cursor so.stands.profile (c.if-not-take_report.ensures.led
    (reported c.args.plan.now so) so.stands.events (sym (reports d))) _ c.next_line.new.cursor c.in-Some.ensures.some c.next_line.ensures.count

pub take_acts-requires-clause-kept : goal.take_acts-requires-clause-kept
take_acts-requires-clause-kept c =
    search (arith, every_plan, keepers_few)
