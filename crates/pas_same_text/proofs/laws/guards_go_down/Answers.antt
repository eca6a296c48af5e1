-- Guards that are lowered.
use Rattle.pas_same_text.proofs.LowerActs.{lower_act}
use Rattle.pas_same_text.proofs.laws.guards_go_down.Goals as goal

pub returns : goal.returns
returns c = λ f keeper is. lower_act f keeper is
