use Rattle.std.proofs.Common.{ap}
use Rattle.pas_shared.proofs.{Ruling.joins, GivingBack.some_word}
use Rattle.pas_shared.proofs.bench.Bench.take.Goals as goal

pub join_seat-requires : goal.join_seat-requires
join_seat-requires c = (c.requires.of, c.requires.other, ap (λ m. m.1) c.args.other.benched, some_word c.args.region.now, joins _ _ _ _ _)
