use Rattle.std.proofs.Common.{arith}
use Rattle.pas_check.proofs.Actings.{idle_long, idle_short, idle_stopped, not_idle, stop_amiss}
use Rattle.pas_check.proofs.acting.stop_idle.Goals as goal

pub returns-then-not-is_idle-clause-taken : goal.returns-then-not-is_idle-clause-taken
returns-then-not-is_idle-clause-taken c = λ f.
    not_idle c.requires.within (λ s stands. idle_short c.args.k c.args.epochs c.requires.known s stands c.if-not-is_idle.ensures)

pub returns-clause-taken : goal.returns-clause-taken
returns-clause-taken c = λ f.
    idle_stopped c.requires.within (λ s stands. idle_long c.args.k c.args.epochs c.requires.known s stands c.if-not-is_idle.ensures)
    (c.if-not-empty_log.ensures.taken f) c.take_record.ensures.led

pub returns-then-not-empty_log-clause-taken : goal.returns-then-not-empty_log-clause-taken
returns-then-not-empty_log-clause-taken c = search (arith, stop_amiss, idle_long)
