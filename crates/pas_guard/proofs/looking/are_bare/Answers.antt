use Rattle.std.proofs.Common.{refl}
use Rattle.pas_guard.proofs.Seeks.{looks_low, looks_both}
use Rattle.pas_guard.proofs.looking.are_bare.Goals as goal

pub returns-then-look-ne0-clause-looks : goal.returns-then-look-ne0-clause-looks
returns-then-look-ne0-clause-looks g c = looks_low c.args.low c.args.high c.look.result c.if-look-ne0.true c.look.ensures.makes

pub returns-clause-looks : goal.returns-clause-looks
returns-clause-looks g c = looks_both c.args.low c.args.high c.look.result c.look-2.result _ c.if-look-ne0.false refl c.look.ensures.makes c.look-2.ensures.makes
