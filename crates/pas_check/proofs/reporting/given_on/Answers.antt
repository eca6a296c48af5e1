use Rattle.std.proofs.Common.{◌∙◌, arith}
use Rattle.pas_report.proofs.Counting.{sum_more}
use Rattle.pas_check.proofs.{Leads.gives_few, Pages.given_counted}
use Rattle.pas_check.proofs.reporting.given_on.Goals as goal

pub overflow_add-given : goal.overflow_add-given
overflow_add-given c = search (arith, gives_few, c.gives_at-given.ensures)

pub loop-grain-preserved : goal.loop-grain-preserved
loop-grain-preserved c =
    search (arith, gives_few, sum_more)

pub returns-clause-given : goal.returns-clause-given
returns-clause-given c = λ es stands. c.loop-grain.invariant.gave es stands ∙ given_counted c.loop-grain.grain es c.args.page (omega arith)

pub returns-clause-few : goal.returns-clause-few
returns-clause-few c = omega (arith, c.loop-grain.invariant.few)
