use Rattle.std.proofs.Common.{◌-◌, ◌∙◌, subst, arith, length-set}
use Rattle.pas_replay.proofs.{Common.{Profile, What, MayStand, block_named, names_held, may_pack}, Turning.may_take_seat, ByActors.{has_named, may_operate}}
use Rattle.pas_replay.proofs.ByActors.{operate_turn, written_back}
use Rattle.pas_answers.{specs.Fit.IsFitWhat, proofs.SingleActs.freed_task}
use Rattle.pas_replay.proofs.seats.serve.Goals as goal

pub take_seat-requires : goal.take_seat-requires
take_seat-requires g c = may_take_seat c.args.desk.now c.args.actors.now c.args.actor (omega (arith, c.requires.thread)) c.requires.so_far.3.2

pub operate_by-came-requires : goal.operate_by-came-requires
operate_by-came-requires g c =
    let so = c.requires.so_far in
    record { stands = (so.3.0.profile, so.0, _, so.3.2.1.0, so.2, may_operate c.args.actor c.index_mut-cache.result.now so.3.1 so.1 so.2 c.requires.some c.requires.thread c.take_seat.ensures c.index_mut-cache.ensures.value (c.freed-meant.ensures ∙ freed_task (block_named c.args.names.now) c.args.task) so.3.2.1.1) }

pub keep-requires-clause-fit : goal.keep-requires-clause-fit
keep-requires-clause-fit g c =
    let so = c.requires.so_far in
    let names = so.3.2.1.1.names in
    (so.3.0.profile, names.asked, subst (λ (w : What). IsFitWhat so.3.0.profile (names_held c.args.names.now) names.asked w) so.2 names.fit.1)

pub keep-requires-clause-packs : goal.keep-requires-clause-packs
keep-requires-clause-packs g c = may_pack _ c.operate_by-came.result c.take_seat.new.desk.region.valid c.operate_by-came.ensures.stands

pub returns-clause-threads : goal.returns-clause-threads
returns-clause-threads g c = length-set c.args.actors.now.caches.items (c.args.actor - 1) c.operate_by-came.new.cache

pub returns-clause-so_far : goal.returns-clause-so_far
returns-clause-so_far g c op mine asks r more (taken, (p, at)) =
    let may = may_operate c.args.actor c.index_mut-cache.result.now more mine asks c.requires.some c.requires.thread c.take_seat.ensures c.index_mut-cache.ensures.value (c.freed-meant.ensures ∙ freed_task (block_named c.args.names.now) c.args.task) at in
    let did = c.operate_by-came.ensures.operates r.profile op _ p asks may in
    let came = subst (λ (f : Profile). MayStand f c.operate_by-came.result) may.rests.sits.profile c.operate_by-came.ensures.stands in
    let acts = written_back c.args.actors.now.indexes.items c.args.actors.now.indexes.len c.deref_mut.ensures.value c.deref_mut.ensures.len did in
    let named = has_named c.args.task c.operate_by-came.result asks c.keep.ensures.held c.keep.ensures.tells c.keep.ensures.stand in
    operate_turn c.args.actor c.operate_by-came.result c.index_mut-cache.result.now c.operate_by-came.new.cache mine c.requires.some c.requires.thread c.take_seat.ensures c.index_mut-cache.ensures.value at acts named came
