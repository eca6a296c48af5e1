use Rattle.std.proofs.Common.{◌<◌, List, drop, length, map, ap, subst, sym, ◌∙◌, arith}
use Rattle.pas_profile.specs.declared.profile.Profile.{Profile}
use Rattle.pas_machine.specs.Machines.{profile_of}
use Rattle.pas_trace.specs.{EveryPlan.all_ops, Plans.ops_of, declared.plan.{Op.Op, Phase.Phase}}
use Rattle.pas_check.{specs.{Checks.ArePlanned, Tables.names_held}, proofs.Actings.{first_amiss, first_on, phases_there, planned_as, phases_behind_first}}
use Rattle.pas_check.proofs.checking.take_phases.Goals as goal

pub take_phase-requires-clause-planned : goal.take_phase-requires-clause-planned
take_phase-requires-clause-planned c =
    let old = c.args.judge.now in
    let d = c.index-phases-0.result in
    let some : 0 < length c.args.phases.now = omega arith in
    let here = (phases_there (profile_of old.machine) (names_held old.names) c.args.phases.now 0 d some c.requires.planned).0 in
    subst (λ (os : List Op). ArePlanned (profile_of old.machine) (names_held old.names) os) (ap ops_of (sym c.index-phases-0.is) ∙ sym c.as_slice.ensures) here

pub take_later-requires-clause-planned : goal.take_later-requires-clause-planned
take_later-requires-clause-planned c =
    let old = c.args.judge.now in
    let d = c.index-phases-0.result in
    let some : 0 < length c.args.phases.now = omega arith in
    let mid = c.take_phase.new.judge in
    subst (λ (ps : List Phase). ArePlanned (profile_of mid.machine) (names_held mid.names) (all_ops (map ops_of ps))) (sym (phases_behind_first c.args.phases.now))
    (planned_as old mid (all_ops (map ops_of (drop 1 c.args.phases.now))) c.if-not-take_phase.ensures.sized
    (phases_there (profile_of old.machine) (names_held old.names) c.args.phases.now 0 d some c.requires.planned).1)

pub returns-clause-taken : goal.returns-clause-taken
returns-clause-taken c keepers =
    first_on keepers c.args.phases.now c.index-phases-0.result (omega arith) (c.as_slice.ensures ∙ ap ops_of c.index-phases-0.is)
    (ap (λ (f : Profile). f.threads) c.if-not-take_phase.ensures.sized.profile) c.if-not-take_phase.ensures.taken
    (rw (phases_behind_first c.args.phases.now) at (c.take_later.ensures.taken keepers))

pub returns-then-not-take_phase-clause-taken : goal.returns-then-not-take_phase-clause-taken
returns-then-not-take_phase-clause-taken c keepers =
    first_amiss keepers c.args.phases.now c.index-phases-0.result (omega arith) (c.as_slice.ensures ∙ ap ops_of c.index-phases-0.is)
    c.if-not-take_phase.ensures.taken
