use Rattle.std.proofs.Common.{◌+◌, map, ap}
use Rattle.pas_profile.specs.declared.profile.Profile.{Profile}
use Rattle.pas_trace.specs.Acts.{Lowers, numbers_from}
use Rattle.pas_check.proofs.Actings.{act_taken, ahead, stopped, taken_for, taken_on}
use Rattle.pas_check.proofs.checking.take_close.Goals as goal

pub returns-then-not-mark_close-clause-taken : goal.returns-then-not-mark_close-clause-taken
returns-then-not-mark_close-clause-taken c = stopped (ahead (act_taken c.if-not-mark_close.ensures.taken))

pub returns-clause-taken : goal.returns-clause-taken
returns-clause-taken c =
    taken_on (ahead (act_taken c.if-not-mark_close.ensures.taken)) (taken_on (ahead c.if-not-end_all.ensures.taken)
    (taken_for (λ n. map Lowers (numbers_from (n + 1) c.args.keepers)) (ap (λ (f : Profile). f.threads) c.if-not-end_all.ensures.sized.profile) c.lower_all.ensures.taken))

pub returns-then-not-end_all-clause-taken : goal.returns-then-not-end_all-clause-taken
returns-then-not-end_all-clause-taken c = taken_on (ahead (act_taken c.if-not-mark_close.ensures.taken)) (stopped (ahead c.if-not-end_all.ensures.taken))
