use Rattle.std.{proofs.Common.{ℕ, ◌≡◌, ◌<◌, ◌+◌, ◌*◌, not}, specs.List.list_any}
use Rattle.pas_trials.specs.Judging.{is_free, covers}
use Rattle.pas_trials.proofs.judging.is_counted.Given as goal

-- the grains so far are counted
abbrev pub invariant-loop-grain : goal.invariant-loop-grain
invariant-loop-grain l = (g : ℕ) → g < l.grain → is_free l.state l.page g ≡ not (list_any (covers (256 * l.page + g)) l.live)
