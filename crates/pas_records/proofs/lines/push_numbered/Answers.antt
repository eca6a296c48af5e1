use Rattle.std.proofs.Common.{arith}
use Rattle.pas_records.proofs.Texts.{then_piece, then_field}
use Rattle.pas_records.proofs.lines.push_numbered.Goals as goal

pub returns-clause-bytes : goal.returns-clause-bytes
returns-clause-bytes g c = search (arith, then_piece, then_field)
