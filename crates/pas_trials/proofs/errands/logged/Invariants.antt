use Rattle.std.proofs.Common.{All, ◌≤◌, length}
use Rattle.pas_free_log.specs.{Conditions.IsEntryOf, Logs.entries_in}
use Rattle.pas_trials.proofs.errands.logged.Given as goal

-- each entry so far may be ended
abbrev pub invariant-loop-block : goal.invariant-loop-block
invariant-loop-block l = record { entries : All (IsEntryOf l.profile) (entries_in l.log); few : length (entries_in l.log) ≤ 64 }
