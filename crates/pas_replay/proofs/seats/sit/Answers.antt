use Rattle.std.proofs.Common.{arith, set-set}
use Rattle.pas_replay.proofs.Common.{set-get_or, get_or_default, same_Some}
use Rattle.pas_replay.proofs.seats.sit.Goals as goal

pub returns-clause-hand : goal.returns-clause-hand
returns-clause-hand c table out =
    search (arith, get_or_default, same_Some, set-set, set-get_or)
