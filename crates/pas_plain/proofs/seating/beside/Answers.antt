use Rattle.std.proofs.Common.{arith}
use Rattle.pas_plain.proofs.Desks.{are_two}
use Rattle.pas_plain.proofs.seating.beside.Goals as goal

pub desk-requires : goal.desk-requires
desk-requires c =
    search (arith, are_two)

pub returns-clause-opens : goal.returns-clause-opens
returns-clause-opens c =
    search (arith, are_two)
