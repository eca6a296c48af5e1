use Rattle.std.proofs.Common.{ℕ, ◌≤◌, ◌<◌}
use Rattle.pas_guard.specs.Passing.{guard_at, KnowsAlive}
use Rattle.pas_guard.proofs.passing.first_not_alive.Given as goal

-- the desk knows each guard below this one as one whose block lives
abbrev pub invariant-loop-place : goal.invariant-loop-place
invariant-loop-place g l = (j : ℕ) → l.from ≤ j → j < l.place → KnowsAlive g.D.Desk.tells (g.D.Desk.standing l.desk) (guard_at l.guards j)
