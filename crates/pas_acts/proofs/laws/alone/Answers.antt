use Rattle.pas_acts.proofs.PhaseActs.{alone_in_order}
use Rattle.pas_acts.proofs.laws.alone.Goals as goal

pub returns : goal.returns
returns c = alone_in_order
