use Rattle.std.proofs.Common.{append-nil, sym, ◌≤◌, ◌∙◌, ◌++◌, List, [], drop_of_length-le, refl, ap, arith, length, get_or}
use Rattle.pas_replay.proofs.{Common.{length-map, acts_of_ops, unlined, Op, idle_in, session, telling}, InOrder.{as_between, can_show, as_told, op_next, past}}
use Rattle.pas_replay.proofs.InOrder.{place_in, said_at, taken_on}
use Rattle.pas_replay.proofs.order.perform_all.Goals as goal

pub loop-place-init : goal.loop-place-init
loop-place-init g c = record {
  told = [];
  took = g.met.T.Takes.nothing c.args.taker.now;
  far = λ ops is r more btw. as_told g.T.Takes.waits r _ (session c.args.desk.now c.args.actors.now c.args.names.now c.args.out.now) (sym (append-nil r.told)) btw;
  threads = refl;
}

pub op-requires : goal.op-requires
op-requires g c = omega (arith, c.loop-place-test.true, c.count-place-end.ensures)

pub perform-requires-clause-so_far : goal.perform-requires-clause-so_far
perform-requires-clause-so_far g c =
    let so0 = c.requires.so_far in
    let at = c.loop-place.invariant in
    let i = c.loop-place.place in
    let s = session c.loop-place.desk c.loop-place.actors c.loop-place.names c.loop-place.out in
    let lt = place_in so0.0 (omega (arith, c.loop-place-test.true, c.count-place-end.ensures)) so0.1 in
    let r = telling so0.2.0 at.told in
    (get_or so0.0 i past, said_at c.op.result so0.0 i lt c.op.ensures so0.1, (r, _, op_next g.T.Takes.waits r s c.args.awake so0.0 so0.2.1 i lt (at.far so0.0 so0.1 so0.2.0 so0.2.1 so0.2.2)))

pub take-requires : goal.take-requires
take-requires g c =
    let so0 = c.requires.so_far in
    let at = c.loop-place.invariant in
    let i = c.loop-place.place in
    let s = session c.loop-place.desk c.loop-place.actors c.loop-place.names c.loop-place.out in
    let lt = place_in so0.0 (omega (arith, c.loop-place-test.true, c.count-place-end.ensures)) so0.1 in
    let r = telling so0.2.0 at.told in
    let so = c.perform.ensures.so_far _ (said_at c.op.result so0.0 i lt c.op.ensures so0.1) r _ (op_next g.T.Takes.waits r s c.args.awake so0.0 so0.2.1 i lt (at.far so0.0 so0.1 so0.2.0 so0.2.1 so0.2.2)) in
    record { shown = can_show so.1 }

pub loop-place-preserved : goal.loop-place-preserved
loop-place-preserved g c =
    let at = c.loop-place.invariant in
    let i = c.loop-place.place in
    let taken = c.take.ensures.taken in
    let s = session c.loop-place.desk c.loop-place.actors c.loop-place.names c.loop-place.out in
    let after = session c.perform.new.desk c.perform.new.actors c.perform.new.names c.perform.new.out in
    record {
      told = at.told ++ taken.0;
      took = g.met.T.Takes.both _ _ _ at.told taken.0 at.took taken.2;
      far = λ ops is r more btw.
          let before = at.far ops is r more btw in
          let lt = place_in ops (omega (arith, c.loop-place-test.true, c.count-place-end.ensures)) is in
          let so = c.perform.ensures.so_far _ (said_at c.op.result ops i lt c.op.ensures is) _ _ (op_next g.T.Takes.waits _ s c.args.awake ops more i lt before) in
          taken_on g.T.Takes.waits r _ after c.loop-place.out at.told taken.0 c.take.new.out taken.1 c.take.ensures.size c.take.ensures.few before.1 so;
      threads = c.perform.ensures.threads ∙ at.threads;
    }

pub returns-clause-so_far : goal.returns-clause-so_far
returns-clause-so_far g c =
    let at = c.loop-place.invariant in
    let s = session c.loop-place.desk c.loop-place.actors c.loop-place.names c.loop-place.out in (
      at.told,
      at.took,
      λ ops is r more btw.
          let past_all : length ops ≤ c.loop-place.place = omega (arith, c.loop-place-test.false, c.count-place-end.ensures, ap (λ (xs : List Op). length xs) is, length-map ops unlined) in
          as_between g.T.Takes.waits (telling r at.told) s
          (ap (λ (xs : List Op). acts_of_ops (idle_in c.args.awake r.threads) xs ++ more) (drop_of_length-le ops past_all)) (at.far ops is r more btw),
    )
