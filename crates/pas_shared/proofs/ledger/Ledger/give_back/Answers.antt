use Rattle.std.proofs.Common.{ap, ◌∙◌}
use Rattle.pas_shared.proofs.{Ruling.joins, GivingBack.{some_word, took_last, splits_last_as}}
use Rattle.pas_shared.proofs.ledger.Ledger.give_back.Goals as goal

pub split_seat-own-requires : goal.split_seat-own-requires
split_seat-own-requires c =
    let last = c.requires.last in
    let me = c.args.self.now.seat.me in
    (c.requires.of, some_word c.args.region.now, splits_last_as _ _ me _ _ last.1 (took_last me _ last.1 c.args.self.now.settled last.4))

pub join_seat-requires : goal.join_seat-requires
join_seat-requires c =
    let last = c.requires.last in
    (last.3.table ∙ last.2.0, c.split_seat-own.ensures.3 ∙ c.requires.of, ap (λ m. m.1) c.split_seat-own.ensures.4, some_word c.args.region.now, joins _ _ _ _ _)
