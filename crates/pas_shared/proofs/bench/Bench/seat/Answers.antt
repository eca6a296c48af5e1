use Rattle.std.proofs.Common.{ap}
use Rattle.pas_shared.proofs.{Ruling.joins, GivingBack.some_word}
use Rattle.pas_shared.proofs.bench.Bench.seat.Goals as goal

pub join_seat-requires : goal.join_seat-requires
join_seat-requires c = (c.requires.of, c.requires.pass.0, ap (λ m. m.1) c.args.pass.place.named, some_word c.args.region.now, joins _ _ _ _ _)
