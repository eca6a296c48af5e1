use Rattle.std.proofs.Common.{All, sym, ◌∙◌, subst, length, ◌≤◌, Option, arith, ap, suc}
use Rattle.pas_threads.proofs.{Common.{same_Some, actors_in, IsPassOf, KeeperStandsIn, WorkerStandsIn, IsUp, kept_pass, IsKeeperOf, Keeper}, Closing.given_back}
use Rattle.pas_threads.proofs.settling.+settling.Goals as goal

pub settle_with-give_back-requires-clause-last : goal.settle_with-give_back-requires-clause-last
settle_with-give_back-requires-clause-last t c =
    let actors = c.settle_keeper-keeper.ensures.settled.actors ∙ c.take_in-rest.ensures.taken in
    (c.args.pass, actors_in c.args.ledger.now, c.requires.pass, c.take_in-rest.ensures.rest, actors)

pub settle_with-returns : goal.settle_with-returns
settle_with-returns t c =
    let there = c.settle_keeper-keeper.ensures in
    let gave = given_back c.args.region.now c.give_back.result c.give_back.new.self c.requires.pass c.take_in-rest.ensures.rest c.take_in-rest.ensures.same
    c.take_in-rest.ensures.taken there.settled c.give_back.ensures.same c.give_back.ensures.back in
    record {
      same = (gave.0, there.same.0, there.same.1);
      settled = gave.1;
      stand = (
        gave.2,
        subst (λ l. KeeperStandsIn l c.args.keeper) (sym c.give_back.ensures.same.steps) there.stand.0,
        subst (λ l. All (WorkerStandsIn l) c.args.workers.now) (sym c.give_back.ensures.same.steps) there.stand.1,
      );
    }

one_pass : (o : Option Keeper) → length (kept_pass o) ≤ 1
-- With one and without one.
one_pass a = search arith

pub settle_workers-settle_with-pass-requires : goal.settle_workers-settle_with-pass-requires
settle_workers-settle_with-pass-requires t c =
    let region = c.args.region.now in
    let is = c.in-Some.ensures.cases.0 in
    let up = subst (All (IsUp region)) is c.requires.workers in
    let head = up 0 c.in-Some.worker.now (omega arith) in
    let pass = same_Some head.0.pass c.in-Some-take.pass (sym head.0.present ∙ sym c.take.ensures.value ∙ c.in-Some-take.is) in (
      omega (arith, c.decreases, ap length is, one_pass c.take-2.result),
      (
        c.requires.of,
        (
          subst (IsPassOf region) pass head.0.of,
          (subst (IsKeeperOf region) (sym c.take-2.ensures.value) head.1, λ i d lt. up (suc i) d (omega (arith, lt))),
        ),
      ),
    )
