-- Passes.
use Rattle.pas_same_text.proofs.PassActs.{pass_same}
use Rattle.pas_same_text.proofs.laws.passes_stay_the_same.Goals as goal

pub returns : goal.returns
returns c = λ f p p' w stamped taken. pass_same f p p' w stamped taken
