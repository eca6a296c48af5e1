use Rattle.std.proofs.Common.{ap}
use Rattle.pas_shared.proofs.Ruling.{joins}
use Rattle.pas_shared.proofs.closing.join.Goals as goal

pub join_seat-requires : goal.join_seat-requires
join_seat-requires c = (c.requires.0, c.requires.2, ap (λ m. m.1) c.args.pass.place.named, c.requires.1, joins _ _ _ _ _)
