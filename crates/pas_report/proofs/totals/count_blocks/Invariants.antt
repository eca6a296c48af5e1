use Rattle.std.proofs.Common.{◌*◌}
use Rattle.pas_report.specs.Counts.{AreCounted}
use Rattle.pas_report.proofs.totals.count_blocks.Given as goal

-- the blocks of the pages so far
abbrev pub invariant-loop-before : goal.invariant-loop-before
invariant-loop-before l = AreCounted l.state (256 * l.before) l.blocks.live l.blocks.ended
