use Rattle.pas_large.proofs.Pages.{keeps_all, can_put, leaves_broken}
use Rattle.pas_large.proofs.taking.take_whole.Goals as goal

pub returns-in-None-clause-takes : goal.returns-in-None-clause-takes
returns-in-None-clause-takes g c = keeps_all c.args.directory c.args.page c.take-got.result c.take-got.ensures.takes c.in-None.ensures

pub put_and_leave-requires-clause-can : goal.put_and_leave-requires-clause-can
put_and_leave-requires-clause-can g c = can_put c.args.directory c.args.page c.take-got.result c.take-got.ensures.takes c.requires.can

pub returns-in-Some-clause-takes : goal.returns-in-Some-clause-takes
returns-in-Some-clause-takes g c = leaves_broken c.args.directory c.args.page _ c.take-got.ensures.takes c.put_and_leave.ensures.puts _ c.in-Some.ensures
