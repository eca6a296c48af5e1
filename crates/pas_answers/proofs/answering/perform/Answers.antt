use Rattle.std.proofs.Common.{refl, ◌≡◌, arith}
use Rattle.pas_answers.proofs.{Common.{can_call, adds_none, Task, cached}, Requests.{can_log, fits_task, performs_free, performs_skip, performs_raw}}
use Rattle.pas_answers.proofs.Requests.{performs_flush, performs_stop, performs_no_move}
use Rattle.pas_answers.proofs.answering.perform.Goals as goal

pub free-requires-clause-turn : goal.free-requires-clause-turn
free-requires-clause-turn g c = (c.requires.stands c.in-Some.block c.in-Some.is).turn

pub free-requires-clause-room : goal.free-requires-clause-room
free-requires-clause-room g c = (fits_task (g.D.Desk.standing c.args.desk.now).seat.profile c.requires.fit.0 c.requires.fit.1 (Task.Free c.in-Free.name c.in-Free.room) c.in-Free.is c.requires.fit.2).1.1

pub free-requires-clause-can : goal.free-requires-clause-can
free-requires-clause-can g c = can_log (cached c.args.cache.now) (Task.Free c.in-Free.name c.in-Free.room) c.in-Some.block.name (g.D.Desk.spare_of c.args.desk.now) c.in-Free.is refl c.requires.can

pub free-requires-in-FreeRaw-clause-turn : goal.free-requires-in-FreeRaw-clause-turn
free-requires-in-FreeRaw-clause-turn g c = search (arith, fits_task)

pub free-requires-in-FreeRaw-clause-room : goal.free-requires-in-FreeRaw-clause-room
free-requires-in-FreeRaw-clause-room g c = search (arith, fits_task)

pub free-requires-in-FreeRaw-clause-can : goal.free-requires-in-FreeRaw-clause-can
free-requires-in-FreeRaw-clause-can g c = search (arith, can_log)

pub returns-in-Request-clause-performs : goal.returns-in-Request-clause-performs
returns-in-Request-clause-performs g c = rw c.in-Request.is (c.allocate.ensures.performs c.args.meant)

-- a guarded one is answered as any
pub allocate-requires-in-Guarded-clause-admitted : goal.allocate-requires-in-Guarded-clause-admitted
allocate-requires-in-Guarded-clause-admitted g c = search (arith, fits_task)

pub allocate-requires-in-Guarded-clause-can : goal.allocate-requires-in-Guarded-clause-can
allocate-requires-in-Guarded-clause-can g c = search (arith, can_call, adds_none)

-- what answers the request answers it, and it costs more
pub returns-in-Guarded-clause-performs : goal.returns-in-Guarded-clause-performs
returns-in-Guarded-clause-performs g c =
    let is = c.allocate-in-Guarded.ensures.performs c.args.meant in
    let did = is.0 in
    rw c.in-Guarded.is (search arith, is.1)

-- no other task asks the door
pub returns-in-Some-clause-performs : goal.returns-in-Some-clause-performs
returns-in-Some-clause-performs g c = search (arith, performs_free)

pub returns-in-None-clause-performs : goal.returns-in-None-clause-performs
returns-in-None-clause-performs g c = rw c.in-Free.is (performs_skip c.args.meant (cached c.args.cache.now) (g.O.Door.answers c.args.door.now c.args.door.now)
    (c.args.door.now ≡ c.args.door.now) c.in-Free.name c.in-Free.room c.in-None.is refl)

pub returns-in-FreeRaw-clause-performs : goal.returns-in-FreeRaw-clause-performs
returns-in-FreeRaw-clause-performs g c = search (arith, performs_raw)

pub returns-in-Flush-clause-performs : goal.returns-in-Flush-clause-performs
returns-in-Flush-clause-performs g c =
    let did = performs_flush c.args.meant (cached c.args.cache.now) (cached c.flush.new.self) c.flush.ensures.flushes in rw c.in-Flush.is (did, refl)

pub returns-in-Stop-clause-performs : goal.returns-in-Stop-clause-performs
returns-in-Stop-clause-performs g c = rw c.in-Stop.is (performs_stop c.args.meant (cached c.args.cache.now) (cached c.stop.new.self) c.stop.ensures.stops, refl)

-- a reallocation of a block, and of nothing
pub resize-requires-clause-admitted : goal.resize-requires-clause-admitted
resize-requires-clause-admitted g c =
    let task = Task.Remake c.in-Remake.name c.in-Remake.old c.in-Remake.heap c.in-Remake.size c.in-Remake.align in
    let fit = (fits_task (g.D.Desk.standing c.args.desk.now).seat.profile c.requires.fit.0 c.requires.fit.1 task c.in-Remake.is c.requires.fit.2).1.0 in
    record { within = fit.within; aligned = fit.aligned; of_profile = (c.requires.stands c.in-Some-meant.block c.in-Some-meant.is).heap }

pub resize-requires-clause-stands : goal.resize-requires-clause-stands
resize-requires-clause-stands g c = c.requires.stands c.in-Some-meant.block c.in-Some-meant.is

-- whatever the old name, it costs the same
pub resize-requires-clause-can : goal.resize-requires-clause-can
resize-requires-clause-can g c = search arith

pub returns-in-Some-meant-clause-performs : goal.returns-in-Some-meant-clause-performs
returns-in-Some-meant-clause-performs g c = rw (c.in-Remake.is, c.in-Some-meant.is) (c.resize.ensures.performs _ _)

pub returns-in-None-meant-clause-performs : goal.returns-in-None-meant-clause-performs
returns-in-None-meant-clause-performs g c = rw (c.in-Remake.is, c.in-None-meant.is) (performs_no_move (cached c.args.cache.now)
    (g.O.Door.answers c.args.door.now c.args.door.now) (c.args.door.now ≡ c.args.door.now) c.in-Remake.name _ _ _ _ refl)
