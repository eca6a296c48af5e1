use Rattle.pas_cache.proofs.FlushesAndFrees.{logs_into}
use Rattle.pas_cache.proofs.freeing.log_entry.Goals as goal

pub returns-clause-logs : goal.returns-clause-logs
returns-clause-logs g c = logs_into _ _ _ _ _ c.args.entry c.make_room.ensures.empties (c.push.ensures.added (c.push.ensures.room.1 c.make_room.ensures.left))
