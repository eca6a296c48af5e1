use Rattle.std.proofs.Common.{◌≡◌, ◌+◌, ◌-◌, ◌<◌, suc, length, arith}
use Rattle.pas_threads.proofs.{Common.{evenly, no_more}, Closing.{thread_closes, keeper_there, keeper_closes}, Keepers.most_keepers}
use Rattle.pas_threads.proofs.turns.close_one.Goals as goal

pub stop-requires : goal.stop-requires
stop-requires c =
    search arith

pub returns-then-place-workers-clause-next : goal.returns-then-place-workers-clause-next
returns-then-place-workers-clause-next c = λ s old p may so.
    let i = c.args.place in
    let d = c.index-workers-place.result in
    let lt : i < length old = omega (arith, c.if-place-workers.true, may.many) in
    let turn = c.stop.ensures.stopped s.profile (suc i) (evenly 0) so.came.reached (so.each i d lt).thread.here in
    thread_closes so d c.stop.new.worker may.threads lt may.many turn c.stop.ensures.empty

pub lower_one-requires : goal.lower_one-requires
lower_one-requires c =
    let r = c.requires.so_far in
    let may = r.3 in
    let j = c.args.place - length c.args.workers.now in
    let at : c.args.place ≡ r.0.threads + j = omega (arith, c.if-place-workers.false, may.threads, may.many) in
    let has = keeper_there r.4 j c.index-workers-behind.result at (omega (arith, at, may.there)) may.guarded in
    record { stands = (r.0.profile, r.0.threads + suc j, r.4.came.reached, has.0, has.1, has.2) }

pub returns-clause-next : goal.returns-clause-next
returns-clause-next c = λ s old p may so.
    let i = c.args.place in
    let j = i - length c.args.workers.now in
    let d = c.index-workers-behind.result in
    let at : i ≡ s.threads + j = omega (arith, c.if-place-workers.false, may.many, may.threads) in
    let less : j < s.keepers = omega (arith, at, may.there) in
    let has = keeper_there so j d at less may.guarded in
    let one = c.lower_one.ensures.one has.0 has.1 in
    let did = one.2 s.profile (s.threads + suc j) no_more so.came.reached has.2 in
    let lt : j < length old = omega (arith, less, most_keepers old may.guarded) in
    keeper_closes so j d c.lower_one.new.worker has.0 one.0 may.threads at lt may.many less has.1 c.lower_one.ensures.but one.1 did
