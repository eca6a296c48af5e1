use Rattle.std.proofs.Common.{refl}
use Rattle.pas_plain.proofs.Desks.{told_later}
use Rattle.pas_plain.proofs.desk.PlainDeskDesk.tell.Goals as goal

pub returns-clause-took : goal.returns-clause-took
returns-clause-took c = told_later c.args.self.now _ c.args.count refl c.count_more.ensures
