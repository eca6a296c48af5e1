use Rattle.std.proofs.lemmas.Result.{on_ok_weaker}
use Rattle.pas_trace.proofs.Gathering.{coded-added}
use Rattle.pas_trace.proofs.gathered.Gathered.add.Goals as goal

pub returns-in-Coded : goal.returns-in-Coded
returns-in-Coded c = on_ok_weaker _ (coded-added _ _ c.in-Coded.coded _ c.in-Coded.is) c.add-in-Coded.ensures
