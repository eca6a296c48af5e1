use Rattle.std.proofs.Common.{ap, arith}
use Rattle.pas_acts.proofs.{Common.Profile, AtDesk.has_passed}
use Rattle.pas_acts.proofs.at_desk.pass.Goals as goal

pub returns-clause-passes : goal.returns-clause-passes
returns-clause-passes g c = λ f later p at.
    has_passed at c.pass.ensures.passes (omega (arith, c.pass.ensures.few, ap (λ (h : Profile). h.pages) at.sits.profile)) c.pass.ensures.room
