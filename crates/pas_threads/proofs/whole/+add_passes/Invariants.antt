use Rattle.std.proofs.Common.{length}
use Rattle.pas_threads.proofs.whole.+add_passes.Given as goal

abbrev pub decreases-add_passes : goal.decreases-add_passes
decreases-add_passes l = length l.workers.now
