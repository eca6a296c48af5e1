use Rattle.std.proofs.Common.{Ok, Err, ◌≡◌}
use Rattle.pas_answers.proofs.{Common.cached, SingleActs.none_stands, Requests.{can_request, serves, performs_request, given_stands}}
use Rattle.pas_answers.proofs.answering.allocate.Goals as goal

pub serve-requires-clause-can : goal.serve-requires-clause-can
serve-requires-clause-can g c = can_request (cached c.args.cache.now) c.args.name c.args.heap c.args.size c.args.align (g.D.Desk.spare_of c.args.desk.now) c.requires.can

pub returns-in-Ok-clause-performs : goal.returns-in-Ok-clause-performs
returns-in-Ok-clause-performs g c = λ meant.
    let r = c.in-Ok.ensures.allocates in
    performs_request _ _ (cached c.args.cache.now) (cached c.serve.new.self) c.args.name c.args.heap c.args.size c.args.align r.found (Ok c.in-Ok.block) meant
    (g.O.Door.answers c.args.door.now c.serve.new.door) (c.serve.new.door ≡ c.args.door.now)
    (serves (cached c.args.cache.now) (cached c.serve.new.self) c.args.heap c.args.size c.args.align r) r.named

pub returns-in-Ok-clause-stands : goal.returns-in-Ok-clause-stands
returns-in-Ok-clause-stands g c = given_stands (cached c.args.cache.now) (cached c.serve.new.self) c.args.name c.args.heap c.args.size c.args.align
    (g.D.Desk.spare_of c.args.desk.now) c.in-Ok.block (g.met.D.Desk.valid c.args.desk.now) c.requires.admitted c.requires.can
    (serves (cached c.args.cache.now) (cached c.serve.new.self) c.args.heap c.args.size c.args.align c.in-Ok.ensures.allocates)

pub returns-in-Err-clause-performs : goal.returns-in-Err-clause-performs
returns-in-Err-clause-performs g c = λ meant.
    let r = c.in-Err.ensures.allocates in
    rw c.refusal.ensures (performs_request _ _ _ _ c.args.name c.args.heap c.args.size c.args.align r.found (Err c.in-Err.room) meant
    (g.O.Door.answers c.args.door.now c.serve.new.door) (c.serve.new.door ≡ c.args.door.now) (serves _ _ c.args.heap c.args.size c.args.align r) r.named)

pub returns-in-Err-clause-stands : goal.returns-in-Err-clause-stands
returns-in-Err-clause-stands g c = none_stands (g.D.Desk.standing c.args.desk.now).seat.profile
