use Rattle.std.proofs.Common.{subst}
use Rattle.pas_answers.proofs.Common.{IsRoomNamed}
use Rattle.pas_answers.proofs.answering.log.Goals as goal

pub free_sized-requires-clause-size : goal.free_sized-requires-clause-size
free_sized-requires-clause-size g c = subst (λ o. IsRoomNamed (g.D.Desk.standing c.args.desk.now).seat.profile o) c.in-Some.is c.requires.room
