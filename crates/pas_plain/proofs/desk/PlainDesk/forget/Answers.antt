use Rattle.std.proofs.Common.{refl}
use Rattle.pas_plain.proofs.Desks.{desk_forgets}
use Rattle.pas_plain.proofs.desk.PlainDesk.forget.Goals as goal

pub returns-clause-stands : goal.returns-clause-stands
returns-clause-stands c = desk_forgets c.args.self.now _ refl c.forget.ensures
