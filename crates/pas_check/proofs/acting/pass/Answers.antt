use Rattle.pas_check.proofs.Actings.{pass_amiss, passed}
use Rattle.pas_check.proofs.acting.pass.Goals as goal

pub returns-then-not-take_record-clause-taken : goal.returns-then-not-take_record-clause-taken
returns-then-not-take_record-clause-taken c = λ f. pass_amiss c.requires.within c.if-not-take_record.ensures.led

pub returns-clause-taken : goal.returns-clause-taken
returns-clause-taken c = λ f. passed c.requires.within c.if-not-take_record.ensures.led c.take_outcomes.ensures.profile c.take_outcomes.ensures.taken
