use Rattle.std.proofs.Common.{◌≡◌, ◌<◌, ◌≤◌, ◌∙◌, ◌-◌, ℕ, not, ap, sym, arith}
use Rattle.pas_replay.proofs.{Common.{filter, is_set, numbers_from, idle_stops, upon}, InOrder.{as_read, chosen_next, passed_next, none_next}}
use Rattle.pas_replay.proofs.order.stop_idle.Goals.{then-not-get, else-not-get}
use Rattle.pas_trace.specs.Acts.{StopsIdle}
use Rattle.pas_replay.proofs.order.stop_idle.Goals as goal

pub read_epoch-epoch-requires : goal.read_epoch-epoch-requires
read_epoch-epoch-requires c = let so0 = c.requires.so_far in record { so_far = (so0.0, c.args.out.now, (so0.1.0, _, so0.1.2)) }

pub loop-index-init : goal.loop-index-init
loop-index-init c = record {
  far = λ table r more so.
      let all_left : r.threads ≡ r.threads - 0 = omega arith in
      as_read (ap (λ (m : ℕ). upon r (idle_stops c.args.epochs (filter (λ k. not (is_set c.args.awake k)) (numbers_from 1 m))) more) all_left)
      (c.read_epoch-epoch.ensures.so_far table c.args.out.now r _ so);
  threads = c.read_epoch-epoch.ensures.threads;
}

-- by cases
pub stop_if_idle-requires-clause-thread : goal.stop_if_idle-requires-clause-thread
stop_if_idle-requires-clause-thread c = search arith

pub stop_if_idle-requires-clause-so_far : goal.stop_if_idle-requires-clause-so_far
stop_if_idle-requires-clause-so_far c =
    let table = c.requires.so_far.0 in
    let s = c.requires.so_far.1 in
    let lt : c.loop-index.index < s.0.threads = omega (arith, c.loop-index-test.true, c.len-threads.ensures, s.2.1.1.many) in
    let on = ap not (sym c.get.ensures ∙ c.if-not-get.true) in
    let chosen = chosen_next s.0 (λ k. StopsIdle k c.args.epochs) (λ k. not (is_set c.args.awake k)) c.loop-index.index s.0.threads s.1 lt on in
    (table, (s.0, _, as_read chosen (c.loop-index.invariant.far table s.0 s.1 s.2)))

pub loop-index-preserved : goal.loop-index-preserved
loop-index-preserved c = elim c.if-not-get.branch [
  | then-not-get w ↦
      let on = ap not (sym c.get.ensures ∙ w.if-not-get.true) in
      rw (w.desk-is, w.actors-is, w.out-is) (record {
        far = λ table r more so.
            let lt : c.loop-index.index < r.threads = omega (arith, c.loop-index-test.true, c.len-threads.ensures, so.1.1.many) in
            let chosen = chosen_next r (λ k. StopsIdle k c.args.epochs) (λ k. not (is_set c.args.awake k)) c.loop-index.index r.threads more lt on in
            w.stop_if_idle.ensures.so_far table r _ (as_read chosen (c.loop-index.invariant.far table r more so));
        threads = w.stop_if_idle.ensures.threads ∙ c.loop-index.invariant.threads;
      })
  | else-not-get w ↦
      let off = ap not (sym c.get.ensures ∙ w.if-not-get.false) in
      rw (w.desk-is, w.actors-is, w.out-is) (record {
        far = λ table r more so.
            let lt : c.loop-index.index < r.threads = omega (arith, c.loop-index-test.true, c.len-threads.ensures, so.1.1.many) in
            let passed = passed_next r (λ k. StopsIdle k c.args.epochs) (λ k. not (is_set c.args.awake k)) c.loop-index.index r.threads more lt off in
            as_read passed (c.loop-index.invariant.far table r more so);
        threads = c.loop-index.invariant.threads;
      })
]

pub returns-clause-so_far : goal.returns-clause-so_far
returns-clause-so_far c table r more so =
    let past : r.threads ≤ c.loop-index.index = omega (arith, c.loop-index-test.false, c.len-threads.ensures, so.1.1.many) in
    let last = as_read (none_next r _ (λ k. not (is_set c.args.awake k)) c.loop-index.index r.threads more past) (c.loop-index.invariant.far table r more so) in
    (last.0, (last.1, last.2))
