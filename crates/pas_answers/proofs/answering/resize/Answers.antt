use Rattle.std.proofs.Common.{Ok, ◌≡◌, ◌∙◌, ap}
use Rattle.pas_answers.proofs.{Common.cached, Requests.{can_move, replaced, refused, new_stands}}
use Rattle.pas_answers.proofs.answering.resize.Goals as goal

pub remake-requires-clause-can : goal.remake-requires-clause-can
remake-requires-clause-can g c = can_move (cached c.args.cache.now) c.args.name 0 0 c.args.size c.args.align (g.D.Desk.spare_of c.args.desk.now) c.args.old.heap (c.requires.can 0 0)

pub returns-in-Ok-New-clause-performs : goal.returns-in-Ok-New-clause-performs
returns-in-Ok-New-clause-performs g c = λ n heap.
    replaced (g.D.Desk.standing c.args.desk.now) (g.D.Desk.standing c.remake.new.desk) (cached c.args.cache.now) (cached c.remake.new.cache) c.args.name n heap c.args.size c.args.align c.args.old (g.O.Door.answers c.args.door.now c.remake.new.door) (c.remake.new.door ≡ c.args.door.now)
    c.in-Ok-New.block (c.in-Ok-New.is ∙ ap (λ moved. Ok moved) c.in-Ok-New.field-0-is) c.requires.stands.heap c.remake.ensures.moves

pub returns-in-Ok-New-clause-stands : goal.returns-in-Ok-New-clause-stands
returns-in-Ok-New-clause-stands g c =
    new_stands (g.D.Desk.standing c.args.desk.now) (g.D.Desk.standing c.remake.new.desk) (cached c.args.cache.now) (cached c.remake.new.cache) c.args.name 0 0 c.args.size c.args.align c.args.old (g.O.Door.answers c.args.door.now c.remake.new.door) (c.remake.new.door ≡ c.args.door.now)
    (g.D.Desk.spare_of c.args.desk.now) c.in-Ok-New.block (g.met.D.Desk.valid c.args.desk.now) c.requires.admitted (c.requires.can 0 0)
    (c.in-Ok-New.is ∙ ap (λ moved. Ok moved) c.in-Ok-New.field-0-is) c.remake.ensures.moves

pub returns-in-Err-clause-performs : goal.returns-in-Err-clause-performs
returns-in-Err-clause-performs g c = λ n heap.
    refused (g.D.Desk.standing c.args.desk.now) (g.D.Desk.standing c.remake.new.desk) (cached c.args.cache.now) (cached c.remake.new.cache) c.args.name n heap c.args.size c.args.align c.args.old (g.O.Door.answers c.args.door.now c.remake.new.door) (c.remake.new.door ≡ c.args.door.now)
    c.in-Err.room c.refusal.result c.refusal.ensures c.requires.stands.heap c.in-Err.ensures.moves
