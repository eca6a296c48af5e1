use Rattle.std.proofs.Common.{◌∙◌, [], ◌∷◌, ℕ, Some, ap, subst, arith}
use Rattle.pas_answers.specs.Names.{MayPack}
use Rattle.pas_replay.proofs.{InOrder.as_first, Turning.{may_take_seat, somewhere}, ByActors.{its_place, guards_first, not_guarded, has_named, keeper_may}}
use Rattle.pas_replay.proofs.{ByActors.{left_turn, gave_turn}, Common.{Settles, Task, what_of, may_pack, upon}}
use Rattle.pas_replay.proofs.seats.operate.Goals as goal

pub take_seat-requires : goal.take_seat-requires
take_seat-requires g c =
    let so0 = c.requires.so_far in
    let so = guards_first so0.0 so0.3.1 c.in-Guarded.is so0.3.2 in
    let place = its_place c.in-Guarded.keeper c.args.actor _ so0.1 so.1.1 in
    may_take_seat c.args.desk.now c.args.actors.now c.in-Guarded.keeper (omega (arith, place.0, place.2, so.1.1.many)) so

pub try_guarded-requires-clause-stands : goal.try_guarded-requires-clause-stands
try_guarded-requires-clause-stands g c =
    let so0 = c.requires.so_far in
    let so = (guards_first so0.0 so0.3.1 c.in-Guarded.is so0.3.2).1 in
    (so0.3.0.profile, c.in-Guarded.keeper, _, so.0, keeper_may so0.0 (upon so0.3.0 (Settles so0.0.actor ∷ []) so0.3.1) so0.1 (so0.2 ∙ ap what_of c.in-Guarded.is) c.take_seat.ensures c.index_mut-book.ensures.value so.1)

pub keep-requires-clause-fit : goal.keep-requires-clause-fit
keep-requires-clause-fit g c = search (arith, guards_first)

pub keep-requires-clause-packs : goal.keep-requires-clause-packs
keep-requires-clause-packs g c = subst MayPack c.in-Some.is (may_pack _ c.try_guarded.result c.take_seat.new.desk.region.valid c.try_guarded.ensures.stands)

pub serve_any-requires-clause-so_far : goal.serve_any-requires-clause-so_far
serve_any-requires-clause-so_far g c =
    let so0 = c.requires.so_far in
    let so = (guards_first so0.0 so0.3.1 c.in-Guarded.is so0.3.2).1 in
    let asks = so0.2 ∙ ap what_of c.in-Guarded.is in
    let did = c.try_guarded.ensures.tries so0.3.0.profile c.in-Guarded.keeper _ so.0 (keeper_may so0.0 (upon so0.3.0 (Settles so0.0.actor ∷ []) so0.3.1) so0.1 asks c.take_seat.ensures c.index_mut-book.ensures.value so.1) in
    (so0.0, so0.1, asks, (so0.3.0, so0.3.1, somewhere (left_turn so0.0 (upon so0.3.0 (Settles so0.0.actor ∷ []) so0.3.1) so0.1 asks c.take_seat.ensures c.index_mut-book.ensures.value so.1 did c.in-None.is)))

pub serve_any-requires-in_default-clause-so_far : goal.serve_any-requires-in_default-clause-so_far
serve_any-requires-in_default-clause-so_far g c = search (arith, as_first, not_guarded)

pub returns-in-Some-clause-so_far : goal.returns-in-Some-clause-so_far
returns-in-Some-clause-so_far g c op mine is r more so0 =
    let so = (guards_first op more c.in-Guarded.is so0).1 in
    let asks = is ∙ ap what_of c.in-Guarded.is in
    let did = c.try_guarded.ensures.tries r.profile c.in-Guarded.keeper _ so.0 (keeper_may op (upon r (Settles op.actor ∷ []) more) mine asks c.take_seat.ensures c.index_mut-book.ensures.value so.1) in
    let its_task = Task.Guarded c.in-Guarded.keeper c.in-Guarded.name c.in-Guarded.heap c.in-Guarded.size c.in-Guarded.align in
    let named = has_named its_task (Some c.in-Some.block) asks c.keep.ensures.held c.keep.ensures.tells c.keep.ensures.stand in
    let gave = somewhere (gave_turn op (upon r (Settles op.actor ∷ []) more) mine asks c.take_seat.ensures c.index_mut-book.ensures.value so.1 did c.in-Some.is named) in
    c.settle.ensures.so_far _ _ _ r more (as_first more (ap (λ (n : ℕ). Settles n ∷ []) mine) gave)

pub returns-in-None-clause-so_far : goal.returns-in-None-clause-so_far
returns-in-None-clause-so_far g c op mine is r more so0 =
    let so = (guards_first op more c.in-Guarded.is so0).1 in
    let asks = is ∙ ap what_of c.in-Guarded.is in
    let did = c.try_guarded.ensures.tries r.profile c.in-Guarded.keeper _ so.0 (keeper_may op (upon r (Settles op.actor ∷ []) more) mine asks c.take_seat.ensures c.index_mut-book.ensures.value so.1) in
    c.serve_any.ensures.so_far op mine asks r more (somewhere (left_turn op (upon r (Settles op.actor ∷ []) more) mine asks c.take_seat.ensures c.index_mut-book.ensures.value so.1 did c.in-None.is))

pub returns-in_default-clause-so_far : goal.returns-in_default-clause-so_far
returns-in_default-clause-so_far g c op mine is r more so =
    c.serve_any-in_default.ensures.so_far op mine is r more (as_first more (not_guarded op c.args.task c.in_default.not-Guarded) so)
