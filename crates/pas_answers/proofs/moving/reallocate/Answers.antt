use Rattle.std.proofs.Common.{sym, ◌∙◌}
use Rattle.pas_answers.proofs.{Common.cached, Requests.{serves, leaves_block, room_to_free, can_free, gives_other}}
use Rattle.pas_answers.proofs.moving.reallocate.Goals as goal

pub returns-in-Err-clause-moves : goal.returns-in-Err-clause-moves
returns-in-Err-clause-moves g c = let r = c.in-Err.ensures.allocates in let s = serves (cached c.args.cache.now) (cached c.serve.new.self) c.args.old.heap c.args.size c.args.align r in leaves_block _ _ _ r.found c.args.old c.args.size c.args.align (cached c.args.cache.now) (cached c.serve.new.self) c.in-Err.room (sym c.suits.ensures ∙ c.if-suits.false) r.named s

pub free-requires-clause-room : goal.free-requires-clause-room
free-requires-clause-room g c = room_to_free c.args.old.heap c.args.size c.args.align (g.D.Desk.spare_of c.args.desk.now) (g.D.Desk.spare_of c.serve.new.desk) (cached c.args.cache.now) (cached c.serve.new.self) c.in-Ok.block c.in-Ok.ensures.allocates c.requires.can (g.met.D.Desk.spares c.args.desk.now) (g.met.D.Desk.spares c.serve.new.desk)

pub free-requires-clause-can : goal.free-requires-clause-can
free-requires-clause-can g c = can_free c.args.old.heap c.args.size c.args.align (g.D.Desk.spare_of c.args.desk.now) (cached c.args.cache.now)
    (cached c.serve.new.self) c.in-Ok.block c.in-Ok.ensures.allocates c.requires.can

pub returns-in-Ok-free-clause-moves : goal.returns-in-Ok-free-clause-moves
returns-in-Ok-free-clause-moves g c = let r = c.in-Ok.ensures.allocates in let s = serves (cached c.args.cache.now) (cached c.serve.new.self) c.args.old.heap c.args.size c.args.align r in gives_other _ _ _ r.found c.args.old c.args.size c.args.align (cached c.args.cache.now) (cached c.serve.new.self) (cached c.free.new.self) c.in-Ok.block (sym c.suits.ensures ∙ c.if-suits.false) r.named s c.in-Ok-free.ensures.frees
