use Rattle.std.proofs.Common.{◌∙◌, arith}
use Rattle.pas_report.proofs.Counting.{grains_counted}
use Rattle.pas_check.proofs.reporting.free_on.Goals as goal

pub returns : goal.returns
returns c = λ es stands. c.loop-grain.invariant.counted es stands ∙ grains_counted c.loop-grain.grain _ (omega arith)
