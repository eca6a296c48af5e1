use Rattle.std.proofs.Common.{ℕ, ◌≤◌}
use Rattle.pas_trials.specs.Judging.{IsSoundPage}
use Rattle.pas_trials.proofs.judging.judge.Given as goal

-- the pages so far are sound
abbrev pub invariant-loop-before : goal.invariant-loop-before
invariant-loop-before l = (page : ℕ) → 1 ≤ page → page ≤ l.before → IsSoundPage l.state l.live page
