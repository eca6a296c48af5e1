-- Live blocks lie on usable grains.
use Rattle.pas_same_text.proofs.UsableBlocks.{act_usable}
use Rattle.pas_same_text.proofs.laws.blocks_stay_usable.Goals as goal

pub returns : goal.returns
returns c = λ f act. act_usable f act
