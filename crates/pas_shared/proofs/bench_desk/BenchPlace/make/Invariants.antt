use Rattle.pas_shared.specs.{Ruled.{made_in, rows_in}, Benches.first_row}
use Rattle.pas_shared.proofs.bench_desk.BenchPlace.make.Given as goal

-- the step is the one asked for, of the member that sits there
abbrev pub ghosts-exchange : goal.ghosts-exchange
ghosts-exchange a = record { profile = a.words.now.key; place = a.seat.now.me.0; actor = a._actor; view = made_in (first_row (rows_in a.seat.now.me.0)) a._actor; step = a.step }
