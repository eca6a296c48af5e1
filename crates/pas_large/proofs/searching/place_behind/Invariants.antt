use Rattle.std.proofs.Common.{length, ◌-◌, ◌≤◌}
use Rattle.pas_large.proofs.Spans.{StandsBehind}
use Rattle.pas_large.proofs.searching.place_behind.Given as goal

-- the ranges below this place end before the page
abbrev pub invariant-loop-place : goal.invariant-loop-place
invariant-loop-place l = record { within : l.place ≤ length l.spans; before : StandsBehind l.first l.spans l.place }

abbrev pub decreases-loop-place : goal.decreases-loop-place
decreases-loop-place l = length l.spans - l.place
