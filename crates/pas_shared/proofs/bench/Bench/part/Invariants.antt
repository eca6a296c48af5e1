use Rattle.pas_shared.proofs.bench.Bench.part.Given as goal

abbrev pub ghosts-leave : goal.ghosts-leave
ghosts-leave a = record { leaver = a._actor }
