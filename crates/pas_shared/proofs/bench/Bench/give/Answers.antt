use Rattle.std.proofs.Common.{refl}
use Rattle.pas_shared.proofs.{Benching.gives_as, GivingBack.some_word}
use Rattle.pas_shared.proofs.bench.Bench.give.Goals as goal

pub split_seat-requires : goal.split_seat-requires
split_seat-requires g c = (c.requires.of, some_word c.args.region.now, gives_as _ _ _ _ _ c.args.self.now.benched c.requires.fresh.is refl)
