use Rattle.std.proofs.Common.{ℕ, ◌≤◌, ◌<◌}
use Rattle.pas_scan.specs.Passed.{KnowsOther}
use Rattle.pas_scan.proofs.passed.first_with_deed.Given as goal

-- the desk knows the deed word of each page below this one as another
abbrev pub invariant-loop-page : goal.invariant-loop-page
invariant-loop-page g l = (p : ℕ) → l.from ≤ p → p < l.page → KnowsOther g.D.Desk.tells (g.D.Desk.standing l.desk) l.deed p
