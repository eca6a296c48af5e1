use Rattle.std.proofs.Common.{arith}
use Rattle.pas_shared.proofs.Ruling.{left_by}
use Rattle.pas_shared.proofs.closing.words_left.Goals as goal

pub returns : goal.returns
returns c =
    search (arith, left_by)
