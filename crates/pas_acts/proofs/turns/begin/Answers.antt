use Rattle.std.proofs.Common.{arith}
use Rattle.pas_acts.proofs.AtDesk.{has_begun}
use Rattle.pas_acts.proofs.turns.begin.Goals as goal

-- the thread rests at the desk
pub begin-requires : goal.begin-requires
begin-requires g c = record { can = search arith }

pub returns-clause-begins : goal.returns-clause-begins
returns-clause-begins g c = λ f k out later p at. has_begun at c.begin.ensures.begins
