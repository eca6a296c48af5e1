-- The text of a state.
use Rattle.pas_same_text.proofs.AllActs.{text_told}
use Rattle.pas_same_text.proofs.laws.texts_are_told.Goals as goal

pub returns : goal.returns
returns c = λ f p w valid legal true_marks same. text_told f p w valid legal true_marks same
