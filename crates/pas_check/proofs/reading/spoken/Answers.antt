use Rattle.std.proofs.Common.{arith}
use Rattle.pas_check.proofs.reading.spoken.Goals as goal

pub returns : goal.returns
returns c = search (arith, c.past_digits-text.ensures, c.byte.ensures, c.worded.ensures, c.number8.ensures)
