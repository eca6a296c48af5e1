use Rattle.pas_acts.proofs.PlanFacts.{are_arranged}
use Rattle.pas_acts.proofs.laws.records.Goals as goal

pub returns : goal.returns
returns c = are_arranged
