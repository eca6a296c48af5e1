use Rattle.std.proofs.Common.{◌≤◌, length, ap, arith}
use Rattle.pas_cache.{specs.Caches.cached, proofs.Budget.HasBudget}
use Rattle.pas_steps.specs.Desks.{CanCall}
use Rattle.pas_trials.proofs.Borrowed.{empty_few, freed_one, budget_call, call_budget, rest_call, freed_budget, flushed_budget, settled_budget}
use Rattle.pas_trials.proofs.paging.end_last_two.{Given.Over, Goals.After-free-2}
use Rattle.pas_trials.proofs.paging.end_last_two.Goals as goal

pub free-requires-clause-room : goal.free-requires-clause-room
free-requires-clause-room g c full = let few = empty_few c.requires.none_logged in absurd (omega (arith, few, full))

pub free-requires-clause-can : goal.free-requires-clause-can
free-requires-clause-can g c = rest_call (budget_call c.requires.can)

pub free-requires-2-clause-room : goal.free-requires-2-clause-room
free-requires-2-clause-room g c full =
    let one = (freed_one (empty_few c.requires.none_logged) c.free.ensures.frees).log in
    absurd (omega (arith, one, ap length c.requires.none_logged, full))

pub free-requires-2-clause-can : goal.free-requires-2-clause-can
free-requires-2-clause-can g c = search (arith, rest_call, freed_budget, empty_few, budget_call)

-- two names are logged, and the budget is as it was
module _ (g : Over) (c : After-free-2 g) where
  one : length (cached c.free.new.self).log ≤ 1
  one = let first = (freed_one (empty_few c.requires.none_logged) c.free.ensures.frees).log in omega (arith, first, ap length c.requires.none_logged)

  two : length (cached c.free-2.new.self).log ≤ 2
  two = let second = (freed_one (omega (arith, one)) c.free-2.ensures.frees).log in omega (arith, one, second)

  budget : CanCall (g.D.Desk.standing c.free-2.new.desk)
      (HasBudget (g.D.Desk.standing c.free-2.new.desk).seat.profile (cached c.free-2.new.self) 5 (g.D.Desk.spare_of c.free-2.new.desk))
  budget =
      let first = freed_budget (empty_few c.requires.none_logged) c.free.ensures.frees (budget_call c.requires.can) (g.met.D.Desk.spares c.args.desk.now)
      (g.met.D.Desk.spares c.free.new.desk) in
      freed_budget (omega (arith, one)) c.free-2.ensures.frees first (g.met.D.Desk.spares c.free.new.desk) (g.met.D.Desk.spares c.free-2.new.desk)

pub flush-requires-clause-room : goal.flush-requires-clause-room
flush-requires-clause-room g c = let at = (goal.at.flush-requires-clause-room g c).After-free-2 in omega (arith, two g at, (budget g at).met.room)

pub flush-requires-clause-can : goal.flush-requires-clause-can
flush-requires-clause-can g c = rest_call (budget g (goal.at.flush-requires-clause-can g c).After-free-2)

pub returns : goal.returns
returns g c =
    let at = (goal.at.returns g c).After-free-2 in
    let flushed = flushed_budget 3 2 (two g at) c.flush.ensures.flushes (budget g at) (g.met.D.Desk.spares c.free-2.new.desk)
    (g.met.D.Desk.spares c.flush.new.desk) in
    record { can = call_budget (settled_budget c.settle.ensures.cache flushed) }
