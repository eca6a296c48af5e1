use Rattle.std.proofs.Common.{◌≡◌, ◌+◌, ◌-◌, ◌∙◌, true, length, refl, sym, subst, arith, List, ℕ, ◌<◌}
use Rattle.pas_threads.proofs.{Common.{so_far, Progress, ActorsStand, ClosedSo, ClosesNext, MayClose, Session, Scavenger, Worker}, Closing.closed_stand}
use Rattle.pas_threads.proofs.{Closing.{settles_next, closes_begin}, turns.close_all.Goals.After-close_one, Keepers.most_keepers, Staging.went_none}
use Rattle.pas_threads.specs.Closing.{MayCloseAt}
use Rattle.pas_threads.proofs.turns.close_all.Goals as goal

pub loop-place-init : goal.loop-place-init
unfolding closes_begin
loop-place-init c =
    record { of = c.requires.of; same = refl; closed = λ s p may. record { closing = closes_begin may.rest; went = went_none s may.stood may.stand.nobody } }

-- what an actor that is there needs for its act
may_at : {region s slot so_far p : _} {old now : List Worker} {i actors : ℕ} → MayClose region s slot old so_far p → length now ≡ length old
    → actors ≡ length old + s.keepers → i < actors → MayCloseAt s i old now
may_at may many is lt = record { threads = sym may.rest.many; many = many; guarded = may.rest.guarded; there = omega (arith, is, lt, may.rest.many) }

pub close_one-requires : goal.close_one-requires
close_one-requires c =
    let r = c.requires.may in
    let all = c.closing_actors-actors.ensures r.0.keepers r.2.rest.guarded in
    let at = may_at r.2 c.loop-place.auto.threads all c.loop-place-test.true in
    record {
      place = omega (arith, c.loop-place.auto.threads, c.loop-place-test.true, all, most_keepers c.args.threads.now r.2.rest.guarded);
      so_far = (r.0, c.args.threads.now, r.1, at, (c.loop-place.invariant.closed r.0 r.1 r.2).closing);
    }

-- the actor at this place made its act
module _ (c : After-close_one) (s : Session) (p : Progress)
    (may : MayClose c.args.region.now s c.args.scavenger.now.pass c.args.threads.now (so_far c.args.ledger.now) p) where
  next : ClosesNext c.args.region.now s c.loop-place.place c.args.threads.now c.loop-place.threads c.close_one.new.workers p
      (c.loop-place.invariant.closed s p may).closing
  next = c.close_one.ensures.next s c.args.threads.now p
      (may_at may c.loop-place.auto.threads (c.closing_actors-actors.ensures s.keepers may.rest.guarded) c.loop-place-test.true)
      (c.loop-place.invariant.closed s p may).closing

  then_stand : ActorsStand c.args.region.now s c.loop-place.scavenger.pass c.close_one.new.workers next.next.came.reached.list
  then_stand = subst (λ (v : Scavenger). ActorsStand c.args.region.now s v.pass c.close_one.new.workers next.next.came.reached.list)
      (sym c.loop-place.invariant.same) (closed_stand next.next (c.close_one.ensures.many ∙ c.loop-place.auto.threads) may.stand)

pub settle-requires-clause-stand : goal.settle-requires-clause-stand
settle-requires-clause-stand c =
    let d = (goal.at.settle-requires-clause-stand c).After-close_one in
    let r = c.requires.may in
    (r.0, (next d r.0 r.1 r.2).next.came.reached.list, then_stand d r.0 r.1 r.2)

pub loop-place-preserved : goal.loop-place-preserved
loop-place-preserved c = record {
  of = c.settle.ensures.of;
  same = c.settle.ensures.scavenger ∙ c.loop-place.invariant.same;
  closed = λ s p may.
      let d = (goal.at.loop-place-preserved c).After-close_one in
      let n = next d s p may in
      let settled = c.settle.ensures.stand s n.next.came.reached.list (then_stand d s p may) in
      subst (λ ws. ClosedSo c.args.region.now s (c.loop-place.place + 1) c.args.threads.now ws (so_far c.args.ledger.now) (so_far c.settle.new.ledger) p)
      (sym c.settle.ensures.same) (settles_next (c.loop-place.invariant.closed s p may) n c.loop-place.auto.threads
      (c.close_one.ensures.many ∙ c.loop-place.auto.threads) may.stand c.settle.ensures.settled.earlier settled);
}

pub returns-clause-closed : goal.returns-clause-closed
returns-clause-closed c = λ s p may.
    let all = c.closing_actors-actors.ensures s.keepers may.rest.guarded in
    let at : c.loop-place.place ≡ s.threads + s.keepers = omega (arith, c.loop-place-test.false, c.loop-place.auto.place-end, all, may.rest.many) in
    rw at at (c.loop-place.invariant.closed s p may)
