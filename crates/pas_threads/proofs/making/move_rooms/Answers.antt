use Rattle.std.proofs.Common.{◌≡◌, ◌<◌, [], length, arith, length-set}
use Rattle.pas_threads.proofs.{Common.{All-set, shown, EventRoom}, StartAndEnd.one_moved}
use Rattle.pas_threads.proofs.making.move_rooms.Goals as goal

pub loop-other-preserved : goal.loop-other-preserved
loop-other-preserved c =
    let i = c.loop-other.invariant in
    let rooms = c.loop-other.rooms.items in
    let actor = c.loop-other.actor in
    let lt : actor < length rooms = omega (arith, i.within, c.len.ensures, c.if-actor-len.false) in
    record {
      empty = All-set (λ (room : EventRoom). shown room ≡ []) rooms actor c.move_into.new.self c.move_into.ensures.empty i.empty;
      within = omega (arith, lt, length-set rooms actor c.move_into.new.self);
      kept = λ sizes count are. one_moved sizes count rooms actor c.index_mut.result.now c.move_into.new.self lt c.index_mut.ensures.value c.move_into.ensures.size c.move_into.ensures.empty (i.kept sizes count are);
    }
