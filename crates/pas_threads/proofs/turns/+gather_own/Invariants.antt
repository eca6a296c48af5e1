use Rattle.std.proofs.Common.{length}
use Rattle.pas_threads.proofs.turns.+gather_own.Given as goal

abbrev pub decreases-gather_own : goal.decreases-gather_own
decreases-gather_own l = length l.threads.now
