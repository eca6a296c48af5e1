use Rattle.std.proofs.{Common.{ltb-true, ap, arith}, lemmas.Result.on_ok_weaker}
use Rattle.pas_trace.proofs.{PassedChecks.passes, Telling.{added_wish, added_chore, added_phase, added_guard, small_actor, ready_for, sample_for, guard_for}}
use Rattle.pas_trace.{proofs.Telling.fit_for, specs.Reasons.{actor_of, guard_after, is_operation}}
use Rattle.pas_trace.proofs.reader.Reader.add.Goals as goal

pub overflow_cast-self : goal.overflow_cast-self
overflow_cast-self c = search (arith, ltb-true, passes)

pub overflow_shl-self : goal.overflow_shl-self
overflow_shl-self c = search (arith, ltb-true, passes)

pub overflow_cast-thread : goal.overflow_cast-thread
overflow_cast-thread c =
    let p = c.requires.tells in
    let small = small_actor _ p.0 c.args.item p.1 p.2 c.in-Operates.thread (ap actor_of c.in-Operates.is) in omega (arith, small)

pub operate-requires-clause-ready : goal.operate-requires-clause-ready
operate-requires-clause-ready c =
    let p = c.requires.tells in
    ready_for _ p.0 _ p.1 p.2 c.in-Operates.thread _ c.requires.cost (ap is_operation c.in-Operates.is) (ap actor_of c.in-Operates.is)
    (λ g. ap (λ i. guard_after i g) c.in-Operates.is)

pub operate-requires-clause-can : goal.operate-requires-clause-can
operate-requires-clause-can c =
    let p = c.requires.tells in
    sample_for _ p.0 _ p.1 p.2 c.in-Operates.thread (ap is_operation c.in-Operates.is) (ap actor_of c.in-Operates.is)

pub operate-requires-clause-fits : goal.operate-requires-clause-fits
operate-requires-clause-fits c = let p = c.requires.tells in fit_for _ p.0 _ p.1 p.2 c.in-Operates.thread c.in-Operates.wish c.in-Operates.is

pub count_rare-requires : goal.count_rare-requires
count_rare-requires c =
    let p = c.requires.tells in
    ready_for _ p.0 _ p.1 p.2 0 _ c.requires.cost (ap is_operation c.in-Scavenges.is) (ap actor_of c.in-Scavenges.is) (λ g. ap (λ i. guard_after i g) c.in-Scavenges.is)

pub returns-in-Operates : goal.returns-in-Operates
returns-in-Operates c = search (arith, on_ok_weaker, added_wish, c.operate.ensures)

pub returns-in-Scavenges : goal.returns-in-Scavenges
returns-in-Scavenges c = search (arith, on_ok_weaker, added_chore, c.what.ensures, c.count_rare.ensures)

pub returns-in-NextPhase : goal.returns-in-NextPhase
returns-in-NextPhase c = search (arith, on_ok_weaker, added_phase, c.next_phase.ensures)

pub begin_guarding-requires-clause-number : goal.begin_guarding-requires-clause-number
begin_guarding-requires-clause-number c = let p = c.requires.tells in guard_for _ p.0 _ p.1 p.2 c.in-Guards.number c.in-Guards.is

pub returns-in-Guards : goal.returns-in-Guards
returns-in-Guards c =
    let p = c.requires.tells in
    let number = guard_for _ p.0 _ p.1 p.2 c.in-Guards.number c.in-Guards.is in
    rw c.in-Guards.is (added_guard _ _ c.in-Guards.number number c.begin_guarding.ensures)
