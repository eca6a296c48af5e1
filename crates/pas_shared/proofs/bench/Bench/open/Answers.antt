use Rattle.pas_shared.proofs.{Benching.lays_out, GivingBack.some_word}
use Rattle.pas_shared.proofs.bench.Bench.open.Goals as goal

pub load_new_seat-requires : goal.load_new_seat-requires
load_new_seat-requires c = (some_word c.args.region.now, lays_out _ _ _)
