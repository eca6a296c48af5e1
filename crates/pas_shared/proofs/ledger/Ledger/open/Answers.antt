use Rattle.pas_shared.proofs.{Ruling.arrives, GivingBack.some_word}
use Rattle.pas_shared.proofs.ledger.Ledger.open.Goals as goal

pub load_new_seat-requires : goal.load_new_seat-requires
load_new_seat-requires c = (some_word c.args.region.now, arrives _ _ _)
