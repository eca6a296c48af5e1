use Rattle.std.proofs.Common.{arith}
use Rattle.pas_cache.proofs.Routes.{is_small}
use Rattle.pas_trials.proofs.Going.{may_stop, slot_asked, visited}
use Rattle.pas_trials.proofs.storming.borrow_one.Goals as goal

pub alloc-requires-clause-route : goal.alloc-requires-clause-route
alloc-requires-clause-route g c = is_small _ 24 16 (omega arith)

pub stop-requires-clause-can : goal.stop-requires-clause-can
stop-requires-clause-can g c = may_stop c.requires.locals c.requires.log (slot_asked c.alloc.ensures.allocates) c.requires.can

pub returns-clause-acts : goal.returns-clause-acts
returns-clause-acts g c = visited c.requires.locals c.requires.log (slot_asked c.alloc.ensures.allocates) c.stop.ensures.stops
