use Rattle.std.proofs.Common.{length, ◌-◌}
use Rattle.pas_large.proofs.Spans.{Gathers}
use Rattle.pas_large.proofs.searching.gather.Given as goal

-- the ranges below this place were made one with the new one
abbrev pub invariant-loop-end : goal.invariant-loop-end
invariant-loop-end l = Gathers l.fn.new l.whole l.spans l.place l.end

abbrev pub decreases-loop-end : goal.decreases-loop-end
decreases-loop-end l = length l.spans - l.end
