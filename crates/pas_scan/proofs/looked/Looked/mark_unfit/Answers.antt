use Rattle.std.proofs.Common.{arith}
use Rattle.pas_scan.proofs.Reading.{marked_more}
use Rattle.pas_scan.proofs.looked.Looked.mark_unfit.Goals as goal

pub returns-clause-unfit : goal.returns-clause-unfit
returns-clause-unfit c = λ p. marked_more c.args.self.now.unfit c.args.page c.with_page.result p (omega (arith, c.requires)) (c.with_page.ensures p)
