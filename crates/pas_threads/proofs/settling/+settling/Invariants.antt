use Rattle.std.proofs.Common.{◌+◌, ◌*◌, length}
use Rattle.pas_threads.proofs.Common.{kept_pass}
use Rattle.pas_threads.proofs.settling.+settling.Given as goal

abbrev pub decreases-settle_with : goal.decreases-settle_with
decreases-settle_with l = 5 * length l.workers.now + 2 * length (kept_pass l.keeper) + 2

abbrev pub decreases-settle_keeper : goal.decreases-settle_keeper
decreases-settle_keeper l = 5 * length l.workers.now + 2 * length (kept_pass l.keeper) + 1

abbrev pub decreases-settle_workers : goal.decreases-settle_workers
decreases-settle_workers l = 5 * length l.workers.now
