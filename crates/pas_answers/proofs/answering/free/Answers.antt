use Rattle.std.proofs.Common.{arith}
use Rattle.pas_answers.proofs.{Common.{cached, entry_with}, Requests.frees_taken}
use Rattle.pas_answers.proofs.answering.free.Goals as goal

pub returns-in-Ok-clause-frees : goal.returns-in-Ok-clause-frees
returns-in-Ok-clause-frees g c = frees_taken (entry_with c.args.block c.args.room) (cached c.args.cache.now) (cached c.log.new.cache) c.in-Ok.field-0 c.in-Ok.ensures.frees

-- no step was made
pub returns-in-Err-Outside-clause-frees : goal.returns-in-Err-Outside-clause-frees
returns-in-Err-Outside-clause-frees g c = search arith

-- nor here
pub returns-in-Err-Unaligned-clause-frees : goal.returns-in-Err-Unaligned-clause-frees
returns-in-Err-Unaligned-clause-frees g c = search arith
