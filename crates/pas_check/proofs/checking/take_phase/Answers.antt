use Rattle.std.proofs.Common.{ap}
use Rattle.pas_profile.specs.declared.profile.Profile.{Profile}
use Rattle.pas_check.proofs.Actings.{phase_taken}
use Rattle.pas_check.proofs.checking.take_phase.Goals as goal

pub returns-clause-taken : goal.returns-clause-taken
returns-clause-taken c =
    phase_taken c.args.ops.now c.active-awake.result c.active-awake.ensures (ap (λ (f : Profile). f.threads) c.wake_all.ensures.sized.profile)
    (c.wake_all.ensures.taken c.args.text.now c.args.cursor.now c.requires.within) c.perform_all.ensures.taken
