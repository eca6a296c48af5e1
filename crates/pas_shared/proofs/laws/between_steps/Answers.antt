use Rattle.pas_shared.proofs.Ruling.{good}
use Rattle.pas_shared.proofs.laws.between_steps.Goals as goal

pub returns : goal.returns
returns c = λ f words views valid h. good f h.whole valid h.legal
