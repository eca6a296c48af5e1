use Rattle.std.proofs.Common.{ap}
use Rattle.pas_shared.proofs.{Ruling.joins, GivingBack.some_word}
use Rattle.pas_shared.proofs.ledger.Ledger.hear.Goals as goal

pub join_seat-requires : goal.join_seat-requires
join_seat-requires c = (c.requires.of, c.requires.bench, ap (λ m. m.1) c.args.bench.benched, some_word c.args.region.now, joins _ _ _ _ _)
