use Rattle.std.proofs.Common.{ap, ◌∙◌}
use Rattle.pas_shared.proofs.{Ruling.{joins, splits_all}, GivingBack.some_word}
use Rattle.pas_shared.proofs.ledger.Ledger.take_in.Goals as goal

pub split_seat-own-requires : goal.split_seat-own-requires
split_seat-own-requires c = (c.requires.pass.0, some_word c.args.region.now, splits_all _ _ _)

pub join_seat-requires : goal.join_seat-requires
join_seat-requires c = (c.requires.of, c.split_seat-own.ensures.3 ∙ c.requires.pass.0, ap (λ m. m.1) c.split_seat-own.ensures.4, some_word c.args.region.now, joins _ _ _ _ _)
