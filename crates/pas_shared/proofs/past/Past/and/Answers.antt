use Rattle.std.proofs.Common.{ap}
use Rattle.pas_shared.proofs.{Ruling.{joins, both_earlier}, GivingBack.some_word}
use Rattle.pas_shared.proofs.past.Past.and.Goals as goal

pub join_seat-requires : goal.join_seat-requires
join_seat-requires c = (c.requires.of, c.requires.other, ap (λ m. m.1) c.args.other.ledger.settled, some_word c.args.region.now, joins _ _ _ _ _)

pub returns-clause-one : goal.returns-clause-one
returns-clause-one c = (both_earlier _ _ c.join_seat.new.seat.me _ c.args.self.ledger.settled c.args.other.ledger.settled (ap (λ m. m.0) c.join_seat.ensures.2) c.look.ensures.each).0

pub returns-clause-other : goal.returns-clause-other
returns-clause-other c = (both_earlier _ _ c.join_seat.new.seat.me _ c.args.self.ledger.settled c.args.other.ledger.settled (ap (λ m. m.0) c.join_seat.ensures.2) c.look.ensures.each).1
