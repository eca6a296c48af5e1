use Rattle.pas_core.proofs.Nexts.{words_next}
use Rattle.pas_core.proofs.order_laws.words_follow.Goals as goal

pub returns : goal.returns
returns c = words_next
