use Rattle.std.proofs.Common.{arith}
use Rattle.pas_cache.proofs.FlushesAndFrees.{empties_where, empties_nothing}
use Rattle.pas_cache.proofs.freeing.make_room.Goals as goal

pub returns-then-len-ge-MOST_LOGGED-clause-empties : goal.returns-then-len-ge-MOST_LOGGED-clause-empties
returns-then-len-ge-MOST_LOGGED-clause-empties g c = empties_where _ _ _ _ (omega (arith, c.len.ensures, c.if-len-ge-MOST_LOGGED.true)) c.flush.ensures.empty c.flush.ensures.flushes

pub returns-else-len-ge-MOST_LOGGED-clause-empties : goal.returns-else-len-ge-MOST_LOGGED-clause-empties
returns-else-len-ge-MOST_LOGGED-clause-empties g c = empties_nothing _ _ (omega (arith, c.len.ensures, c.if-len-ge-MOST_LOGGED.false))
