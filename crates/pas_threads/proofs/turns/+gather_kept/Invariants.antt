use Rattle.std.proofs.Common.{length}
use Rattle.pas_threads.proofs.turns.+gather_kept.Given as goal

abbrev pub decreases-gather_kept : goal.decreases-gather_kept
decreases-gather_kept l = length l.threads.now
