use Rattle.pas_plain.proofs.Desks.{are_short}
use Rattle.pas_plain.proofs.desk.PlainDeskDesk.short_pages.Goals as goal

pub returns : goal.returns
returns c = are_short c.args.self.now c.args.grains c.args.align c.args.block _ c.short_pages.ensures
