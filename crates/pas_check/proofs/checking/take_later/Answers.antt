use Rattle.std.proofs.Common.{◌≡◌, ◌+◌, List, get_or, ap, subst, sym, ◌∙◌, drop_of_length-le, arith}
use Rattle.pas_profile.specs.{Profiles.IsValid, declared.profile.Profile.Profile}
use Rattle.pas_machine.specs.Machines.{profile_of}
use Rattle.pas_trace.specs.{Plans.ops_of, declared.plan.Op.Op}
use Rattle.pas_check.{specs.{Checks.{ArePlanned, threads_in}, Tables.names_held}, proofs.Actings.{act_taken, sized_as_before, sized_on, stopped, then_taken}}
use Rattle.pas_check.proofs.Actings.{phase_at, phase_done, phases_there, planned_as}
use Rattle.pas_check.proofs.checking.take_later.Goals as goal

pub returns-then-not-mark_phase-clause-taken : goal.returns-then-not-mark_phase-clause-taken
returns-then-not-mark_phase-clause-taken c keepers =
    stopped (then_taken _ (phase_at (threads_in c.args.judge.now) keepers
    (c.loop-phase.number + 1) c.args.phases.now c.loop-phase.phase-index c.phase-item.result c.loop-phase-test.true)
    (c.loop-phase.invariant.far keepers) (act_taken c.if-not-mark_phase.ensures.taken))

pub take_phase-requires-clause-valid : goal.take_phase-requires-clause-valid
take_phase-requires-clause-valid c = subst IsValid (sym c.loop-phase.invariant.sized.profile) c.requires.valid

pub take_phase-requires-clause-sized : goal.take_phase-requires-clause-sized
take_phase-requires-clause-sized c = sized_as_before c.loop-phase.invariant.sized c.requires.sized

pub take_phase-requires-clause-planned : goal.take_phase-requires-clause-planned
take_phase-requires-clause-planned c =
    let old = c.args.judge.now in
    let d = c.phase-item.result in
    let i = c.loop-phase.phase-index in
    let here = (phases_there (profile_of old.machine) (names_held old.names) c.args.phases.now i d c.loop-phase-test.true c.loop-phase.invariant.planned).0 in
    let is : ops_of (get_or c.args.phases.now i d) ≡ c.as_slice.result.now = ap ops_of (sym c.phase-item.is) ∙ sym c.as_slice.ensures in
    planned_as old c.loop-phase.judge c.as_slice.result.now c.loop-phase.invariant.sized
    (subst (λ (os : List Op). ArePlanned (profile_of old.machine) (names_held old.names) os) is here)

pub returns-then-not-take_phase-clause-taken : goal.returns-then-not-take_phase-clause-taken
returns-then-not-take_phase-clause-taken c keepers =
    stopped (phase_done _ (ap (λ (f : Profile). f.threads) c.loop-phase.invariant.sized.profile) (c.as_slice.ensures ∙ ap ops_of c.phase-item.is)
    (phase_at (threads_in c.args.judge.now) keepers (c.loop-phase.number + 1) c.args.phases.now c.loop-phase.phase-index c.phase-item.result c.loop-phase-test.true)
    (c.loop-phase.invariant.far keepers) c.if-not-mark_phase.ensures.taken c.if-not-take_phase.ensures.taken)

pub loop-phase-preserved : goal.loop-phase-preserved
loop-phase-preserved c =
    let old = c.args.judge.now in
    let d = c.phase-item.result in
    let i = c.loop-phase.phase-index in
    record {
      sized = sized_on c.loop-phase.invariant.sized c.if-not-take_phase.ensures.sized;
      within = c.if-not-take_phase.ensures.within;
      count = (omega (arith, c.loop-phase.invariant.count));
      planned = (phases_there (profile_of old.machine) (names_held old.names) c.args.phases.now i d c.loop-phase-test.true c.loop-phase.invariant.planned).1;
      far = λ keepers. phase_done _ (ap (λ (f : Profile). f.threads) c.loop-phase.invariant.sized.profile) (c.as_slice.ensures ∙ ap ops_of c.phase-item.is)
          (phase_at (threads_in old) keepers (c.loop-phase.number + 1) c.args.phases.now i d c.loop-phase-test.true) (c.loop-phase.invariant.far keepers)
          c.if-not-mark_phase.ensures.taken c.if-not-take_phase.ensures.taken;
    }

pub returns-clause-taken : goal.returns-clause-taken
returns-clause-taken c keepers = rw (drop_of_length-le c.args.phases.now c.loop-phase-test.false) at (c.loop-phase.invariant.far keepers)
