use Rattle.std.proofs.Common.{All}
use Rattle.pas_free_log.specs.{Conditions.IsEntryOf, Logs.entries_in}
use Rattle.pas_tests.specs.Walks.{lone_region}
use Rattle.pas_tests.proofs.free_log.full_log.Given as goal

-- each entry so far may be ended
abbrev pub invariant-loop-grain : goal.invariant-loop-grain
invariant-loop-grain l = All (IsEntryOf lone_region) (entries_in l.log)
