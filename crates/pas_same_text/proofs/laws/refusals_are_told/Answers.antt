-- The reason of a refusal.
use Rattle.pas_same_text.proofs.SearchedPages.{refusal_told}
use Rattle.pas_same_text.proofs.laws.refusals_are_told.Goals as goal

pub returns : goal.returns
returns c = λ f p w d room rest of reason. refusal_told f p w rest.valid rest.between rest.same d of room reason
