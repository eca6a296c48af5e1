use Rattle.std.proofs.Common.{arith}
use Rattle.pas_check.proofs.OneNext.{class_kind}
use Rattle.pas_check.proofs.serving.wanted_for.Goals as goal

pub returns-clause-kind : goal.returns-clause-kind
returns-clause-kind c = search (arith, class_kind, c.route.ensures)
