use Rattle.std.proofs.Common.{◌+◌, ◌*◌}
use Rattle.pas_report.specs.Counts.{AreCounted}
use Rattle.pas_report.proofs.totals.with_page.Given as goal

-- the blocks at the grains so far
abbrev pub invariant-loop-grain : goal.invariant-loop-grain
invariant-loop-grain l = AreCounted l.state (256 * l.before + l.grain) l.live l.ended
