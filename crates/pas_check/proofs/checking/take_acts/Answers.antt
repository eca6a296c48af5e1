use Rattle.std.proofs.Common.{ap}
use Rattle.pas_profile.specs.declared.profile.Profile.{Profile}
use Rattle.pas_trace.specs.Acts.{close_acts}
use Rattle.pas_check.proofs.Actings.{stopped, taken_for, taken_on}
use Rattle.pas_check.proofs.checking.take_acts.Goals as goal

pub returns-clause-taken : goal.returns-clause-taken
returns-clause-taken c =
    taken_on (c.if-not-take_phases.ensures.taken c.args.keepers)
    (taken_for (λ n. close_acts n c.args.keepers) (ap (λ (f : Profile). f.threads) c.if-not-take_phases.ensures.sized.profile) c.take_close.ensures.taken)

pub returns-then-not-take_phases-clause-taken : goal.returns-then-not-take_phases-clause-taken
returns-then-not-take_phases-clause-taken c = stopped (c.if-not-take_phases.ensures.taken c.args.keepers)
