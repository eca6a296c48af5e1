use Rattle.pas_shared.proofs.{Benching.settles_as, GivingBack.some_word}
use Rattle.pas_shared.proofs.bench.Bench.look.Goals as goal

pub load-requires : goal.load-requires
load-requires c = (c.requires.of, some_word c.args.region.now, settles_as _ _ _ _ _ c.args.self.now.benched)
