-- Who acts, and what is asked for.
use Rattle.pas_same_text.proofs.AllActs.{plan_acts}
use Rattle.pas_same_text.proofs.laws.acts_are_planned.Goals as goal

pub returns : goal.returns
returns c = λ text plan read. plan_acts read
