use Rattle.pas_shared.specs.Ruled.{actor_in, view_in}
use Rattle.pas_shared.proofs.pass.ActorSeat.make.Given as goal

-- the step is the one asked for, of the actor that the seat names
abbrev pub ghosts-exchange : goal.ghosts-exchange
ghosts-exchange a = record { profile = a.words.now.key; place = a.seat.now.me.0; actor = actor_in a.seat.now.me.0; view = view_in a.seat.now.me.0; step = a.step }
