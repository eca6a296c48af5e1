use Rattle.std.proofs.Common.{◌≡◌, ◌++◌, take, drop}
use Rattle.pas_large.proofs.editing.replace.Given as goal

-- those from `place` to here were taken out
abbrev pub invariant-loop-here : goal.invariant-loop-here
invariant-loop-here l = l.spans.items ≡ take l.place l.fn.spans.items ++ drop l.here l.fn.spans.items
