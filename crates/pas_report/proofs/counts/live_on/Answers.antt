use Rattle.std.proofs.Common.{◌∙◌, arith}
use Rattle.pas_report.proofs.Counting.{grains_counted}
use Rattle.pas_report.proofs.counts.live_on.Goals as goal

pub returns : goal.returns
returns c = c.loop-grain.invariant.counted ∙ grains_counted c.loop-grain.grain _ (omega arith)
