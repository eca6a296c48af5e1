use Rattle.std.proofs.Common.{arith}
use Rattle.pas_steps.proofs.OnPages.{none_open}
use Rattle.pas_steps.proofs.paged.PagedWords.opened.Goals as goal

pub returns-clause-values : goal.returns-clause-values
returns-clause-values c = grind (arith, none_open)
