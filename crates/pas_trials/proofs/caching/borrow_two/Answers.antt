use Rattle.std.proofs.Common.{ℕ, ◌+◌, ◌∙◌, ◌≡◌, [], ap, arith, length}
use Rattle.pas_steps.specs.Desks.{CanCall}
use Rattle.pas_cache.{specs.Caches.{Cached, cached}, proofs.{Budget.{HasBudget, may_allocate}, Routes.is_small}}
use Rattle.pas_trials.proofs.Borrowed.{admitted, budget_call, rest_call, call_budget, asked_left, small_turn, empty_few, freed_one, freed_budget}
use Rattle.pas_trials.proofs.{Borrowed.stopped_budget, Going.slot_asked, caching.borrow_two.{Given.Over, Goals.{After-alloc-second, After-stop}}}
use Rattle.pas_trials.proofs.caching.borrow_two.Goals as goal

-- what the two requests leave
after_second : (g : Over) (c : After-alloc-second g) (n : ℕ)
    → CanCall (g.D.Desk.standing c.args.desk.now)
    (HasBudget (g.D.Desk.standing c.args.desk.now).seat.profile (cached c.args.cache.now) (n + 5) (g.D.Desk.spare_of c.args.desk.now))
    → CanCall (g.D.Desk.standing c.alloc-second.new.desk)
    (HasBudget (g.D.Desk.standing c.alloc-second.new.desk).seat.profile (cached c.alloc-second.new.self) (n + 1) (g.D.Desk.spare_of c.alloc-second.new.desk))
after_second g c n can =
    let first = asked_left (n + 3) (omega arith) c.alloc-first.ensures.allocates can (g.met.D.Desk.spares c.args.desk.now)
    (g.met.D.Desk.spares c.alloc-first.new.desk) in
    asked_left (n + 1) (omega arith) c.alloc-second.ensures.allocates first (g.met.D.Desk.spares c.alloc-first.new.desk)
    (g.met.D.Desk.spares c.alloc-second.new.desk)

none_logged : (g : Over) (c : After-alloc-second g) → (cached c.alloc-second.new.self).log ≡ []
none_logged g c = (slot_asked c.alloc-second.ensures.allocates).log ∙ ((slot_asked c.alloc-first.ensures.allocates).log ∙ c.requires.none_logged)

pub alloc-first-requires-clause-admitted : goal.alloc-first-requires-clause-admitted
alloc-first-requires-clause-admitted g c = admitted _ c.args.size c.requires.size (g.met.D.Desk.valid c.args.desk.now)

pub alloc-first-requires-clause-route : goal.alloc-first-requires-clause-route
alloc-first-requires-clause-route g c = is_small _ c.args.size 16 c.requires.size

pub alloc-first-requires-clause-can : goal.alloc-first-requires-clause-can
alloc-first-requires-clause-can g c = may_allocate 5 (omega arith) (budget_call c.requires.can)

pub alloc-second-requires-clause-admitted : goal.alloc-second-requires-clause-admitted
alloc-second-requires-clause-admitted g c = admitted _ c.args.size c.requires.size (g.met.D.Desk.valid c.alloc-first.new.desk)

pub alloc-second-requires-clause-route : goal.alloc-second-requires-clause-route
alloc-second-requires-clause-route g c = is_small _ c.args.size 16 c.requires.size

pub alloc-second-requires-clause-can : goal.alloc-second-requires-clause-can
alloc-second-requires-clause-can g c = may_allocate 3 (omega arith)
    (asked_left 3 (omega arith) c.alloc-first.ensures.allocates (budget_call c.requires.can) (g.met.D.Desk.spares c.args.desk.now)
    (g.met.D.Desk.spares c.alloc-first.new.desk))

pub name_of-requires : goal.name_of-requires
name_of-requires g c = small_turn _ c.alloc-first.ensures.allocates (rest_call (budget_call c.requires.can))

pub free-requires-clause-can : goal.free-requires-clause-can
free-requires-clause-can g c = rest_call (after_second g (goal.at.free-requires-clause-can g c).After-alloc-second 0 (budget_call c.requires.can))

pub stop-requires-clause-room : goal.stop-requires-clause-room
stop-requires-clause-room g c =
    let before = (goal.at.stop-requires-clause-room g c).After-alloc-second in
    let none = none_logged g before in
    let one = (freed_one (empty_few none) c.free.ensures.frees).log in
    let freed = freed_budget (empty_few none) c.free.ensures.frees (after_second g before 0 (budget_call c.requires.can))
    (g.met.D.Desk.spares c.alloc-second.new.desk) (g.met.D.Desk.spares c.free.new.desk) in
    omega (arith, one, ap length none, freed.met.room)

pub stop-requires-clause-can : goal.stop-requires-clause-can
stop-requires-clause-can g c =
    let before = (goal.at.stop-requires-clause-can g c).After-alloc-second in
    rest_call (freed_budget (empty_few (none_logged g before)) c.free.ensures.frees (after_second g before 0 (budget_call c.requires.can))
    (g.met.D.Desk.spares c.alloc-second.new.desk) (g.met.D.Desk.spares c.free.new.desk))

-- what all of them leave
after_stop : (g : Over) (c : After-stop g) → (cached c.alloc-second.new.self).log ≡ [] → (n : ℕ)
    → CanCall (g.D.Desk.standing c.alloc-second.new.desk)
    (HasBudget (g.D.Desk.standing c.alloc-second.new.desk).seat.profile (cached c.alloc-second.new.self) (n + 1) (g.D.Desk.spare_of c.alloc-second.new.desk))
    → CanCall (g.D.Desk.standing c.stop.new.desk)
    (HasBudget (g.D.Desk.standing c.stop.new.desk).seat.profile (cached c.stop.new.self) n (g.D.Desk.spare_of c.stop.new.desk))
after_stop g c none n second =
    let one = (freed_one (empty_few none) c.free.ensures.frees).log in
    let freed = freed_budget (empty_few none) c.free.ensures.frees second (g.met.D.Desk.spares c.alloc-second.new.desk) (g.met.D.Desk.spares c.free.new.desk) in
    stopped_budget (omega (arith, one, ap length none)) c.stop.ensures.stops freed (g.met.D.Desk.spares c.free.new.desk) (g.met.D.Desk.spares c.stop.new.desk)

pub returns-clause-none_logged : goal.returns-clause-none_logged
returns-clause-none_logged g c = ap (λ (x : Cached). x.log) c.stop.ensures.stops.cache

pub returns-clause-seat : goal.returns-clause-seat
returns-clause-seat g c = search arith

pub returns-clause-rest : goal.returns-clause-rest
returns-clause-rest g c =
    let at = goal.at.returns-clause-rest g c in
    rest_call (after_stop g at.After-stop (none_logged g at.After-alloc-second) 0 (after_second g at.After-alloc-second 0 (budget_call c.requires.can)))

pub returns-clause-room : goal.returns-clause-room
returns-clause-room g c n can =
    search (arith, call_budget, after_stop, none_logged, after_second, budget_call)
