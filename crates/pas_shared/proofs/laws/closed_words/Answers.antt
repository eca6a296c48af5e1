use Rattle.pas_shared.proofs.Ruling.{good}
use Rattle.pas_shared.proofs.laws.closed_words.Goals as goal

pub returns : goal.returns
returns c = λ f passes state valid h. good f h.after.whole valid h.after.legal
