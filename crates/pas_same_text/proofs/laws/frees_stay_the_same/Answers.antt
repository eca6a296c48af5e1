-- Frees by an address, and by a name of the trace.
use Rattle.std.proofs.Common.{Some}
use Rattle.pas_same_text.proofs.{SmallActs.{named_room, entry_same, raw_same, named_same}, Common.sized_entry}
use Rattle.pas_same_text.proofs.laws.frees_stay_the_same.Goals as goal

pub returns-clause-raw : goal.returns-clause-raw
returns-clause-raw c = λ f line k block is. raw_same f line k block is

pub returns-clause-named : goal.returns-clause-named
returns-clause-named c = λ f line k name is. named_same f line k name is

pub returns-clause-raw_sized : goal.returns-clause-raw_sized
returns-clause-raw_sized c =
    λ f line k room block is p p' w room' taken. entry_same f k p p' w taken.advances.0 taken.same taken.advances.1.1 taken.advances.2 is taken.listed room'
    (sized_entry block room) taken.advances.1.0

pub returns-clause-named_sized : goal.returns-clause-named_sized
returns-clause-named_sized c = λ f line k name room is p p' w room' taken. named_room f k name
    (Some room) p p' w taken.advances.0 is taken.listed taken.same room' taken.advances.1.0 taken.advances.1.1 taken.advances.2
