use Rattle.pas_check.proofs.Pages.{may_be_unoffered, must_be_offered}
use Rattle.pas_check.proofs.reporting.is_hinted.Goals as goal

pub returns-then-shown : goal.returns-then-shown
returns-then-shown c = must_be_offered c.args.shown.now c.args.line.now c.args.hinted c.if-shown.true c.if-is_with.ensures

pub returns : goal.returns
returns c = may_be_unoffered c.args.shown.now c.args.line.now c.args.hinted c.if-shown.false c.if-is_with.ensures c.is_with-2.result c.is_with-2.ensures
