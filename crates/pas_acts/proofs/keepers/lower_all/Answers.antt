use Rattle.pas_acts.proofs.AtDesk.{may_lower, has_lowered}
use Rattle.pas_acts.proofs.keepers.lower_all.Goals as goal

pub lower_all-requires : goal.lower_all-requires
lower_all-requires g c = record { can = may_lower c.requires.stands.4 }

pub returns-clause-lowers : goal.returns-clause-lowers
returns-clause-lowers g c = λ f k later p at. has_lowered at c.lower_all.ensures.lowers
