use Rattle.std.proofs.Common.{true, refl}
use Rattle.pas_check.proofs.Pages.{page_hinted, page_last, page_none}
use Rattle.pas_check.proofs.reporting.is_page_line.Goals as goal

pub returns-then-is_hinted : goal.returns-then-is_hinted
returns-then-is_hinted c = page_hinted c.args.shown.now c.args.line.now true (λ on. refl) c.if-is_hinted.ensures

pub returns-then-shown : goal.returns-then-shown
returns-then-shown c = page_none c.args.shown.now c.args.line.now c.if-shown.true c.if-is_hinted.ensures

pub returns : goal.returns
returns c = page_last c.args.shown.now c.args.line.now c.if-shown.false c.if-is_hinted.ensures c.is_hinted-2.result c.is_hinted-2.ensures
