use Rattle.std.proofs.Common.{refl}
use Rattle.pas_plain.proofs.Desks.{noted_still}
use Rattle.pas_plain.proofs.desk.PlainDeskDesk.note_short.Goals as goal

pub returns-clause-still : goal.returns-clause-still
returns-clause-still c = noted_still c.args.self.now _ c.note_short.ensures.profile c.note_short.ensures.words refl
