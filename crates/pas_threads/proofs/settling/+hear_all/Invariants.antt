use Rattle.std.proofs.Common.{length}
use Rattle.pas_threads.proofs.settling.+hear_all.Given as goal

abbrev pub decreases-hear_all : goal.decreases-hear_all
decreases-hear_all l = length l.workers.now
