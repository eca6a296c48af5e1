use Rattle.std.proofs.Common.{arith}
use Rattle.pas_check.proofs.Pages.{live_more}
use Rattle.pas_check.proofs.reporting.count_live.Goals as goal

pub loop-before-preserved : goal.loop-before-preserved
loop-before-preserved c =
    search (arith, live_more)
