use Rattle.std.{proofs.Common.{◌≡◌, ◌≤◌, false, length, drop}, specs.List.list_any}
use Rattle.pas_cache.specs.Locals.{is_for}
use Rattle.pas_cache.proofs.taking.place_of.Given as goal

-- none from here on serves the heap and the class
abbrev pub invariant-loop-place : goal.invariant-loop-place
invariant-loop-place l = record { within : l.place ≤ length l.locals; none : list_any (is_for l.heap l.class) (drop l.place l.locals) ≡ false }

abbrev pub decreases-loop-place : goal.decreases-loop-place
decreases-loop-place l = l.place
