-- those but the one that is moved are there, around a hole
use Rattle.std.proofs.Common.{◌≡◌, ◌+◌, ◌-◌, ◌≤◌, length, remove}
use Rattle.pas_cache.proofs.taking.move_to_end.Given as goal

abbrev pub invariant-loop-hole : goal.invariant-loop-hole
invariant-loop-hole l = record { within : l.hole + 1 ≤ length l.locals; others : remove l.locals l.hole ≡ remove l.initial.locals l.place }

abbrev pub decreases-loop-hole : goal.decreases-loop-hole
decreases-loop-hole l = length l.locals - l.hole
