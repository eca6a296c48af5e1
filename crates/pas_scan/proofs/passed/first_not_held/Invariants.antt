use Rattle.std.proofs.Common.{ℕ, ◌≤◌, ◌<◌, ◌-◌}
use Rattle.pas_scan.specs.Passed.{KnowsHeld}
use Rattle.pas_scan.proofs.passed.first_not_held.Given as goal

-- the desk knows each page below this one as one of the directory that isn't offered
abbrev pub invariant-loop-page : goal.invariant-loop-page
invariant-loop-page g l = record {
  from_there : l.from ≤ l.page;
  within : l.page ≤ l.end;
  held : (p : ℕ) → l.from ≤ p → p < l.page → KnowsHeld g.D.Desk.tells (g.D.Desk.standing l.fn.desk) l.fn.directory p;
}

abbrev pub decreases-loop-page : goal.decreases-loop-page
decreases-loop-page g l = l.end - l.page
