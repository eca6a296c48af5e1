use Rattle.std.proofs.Common.{length, ◌-◌}
use Rattle.pas_large.proofs.Spans.{LooksFor}
use Rattle.pas_large.proofs.searching.place_at.Given as goal

-- no range below this place begins at the page
abbrev pub invariant-loop-place : goal.invariant-loop-place
invariant-loop-place l = LooksFor l.first l.pages l.spans l.place

abbrev pub decreases-loop-place : goal.decreases-loop-place
decreases-loop-place l = length l.spans - l.place
