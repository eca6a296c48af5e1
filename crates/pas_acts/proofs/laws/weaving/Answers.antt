use Rattle.pas_acts.proofs.{Naming.are_known, Weaving.weave, Common.reach_both}
use Rattle.pas_acts.proofs.laws.weaving.Goals as goal

pub returns-clause-woven : goal.returns-clause-woven
returns-clause-woven c = weave

pub returns-clause-joined : goal.returns-clause-joined
returns-clause-joined c = reach_both

pub returns-clause-known : goal.returns-clause-known
returns-clause-known c = are_known
