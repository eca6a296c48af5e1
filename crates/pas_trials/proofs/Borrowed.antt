-- Requests one after another over any desk, for slots and for whole pages, and how far they have come; frees and a stop.
use Rattle.std.proofs.Common.{◌≡◌, ℕ, ◌+◌, ◌≤◌, [], ◌++◌, length, Bool, Result, refl, ◌∙◌, arith, ◌^◌, ◌<◌, nat_le, List, ap, length-append, leb-true}
use Rattle.std.proofs.Common.{MatchResult, Option}
use Rattle.pas_profile.specs.declared.{name.{Block.Block, Name.Name}, event.{NoRoom.NoRoom, FreeFault.FreeFault}, profile.Profile.Profile, entry.Entry.Entry}
use Rattle.pas_profile.specs.{Profiles.{IsValid, IsAdmitted}, Entries.entry_of}
use Rattle.pas_steps.specs.{Agreement.Agreed, Desks.{Standing, CanCall}, Events.events_by, Unknown.unknown_pages, declared.step.Made.Made}
use Rattle.pas_steps.proofs.{Called.{call_as, call_then}, Adding.adds_under, Frames.events_append, Unknown.unknown_no_more, SpareRoom.{Spares, spare_falls}}
use Rattle.pas_cache.specs.{Caches.{Cached, AtRest}, Serves.{Wanted, wanted_for, pages_of}, Changes.EmptiesFull, Calls.{Rests, Allocates, TakesEntry}}
use Rattle.pas_cache.{specs.Calls.{RefusesName, Frees, StopsCache, MayAllocatePages, AllocatesPages, most_events, FlushesLog}, proofs.Budget.HasBudget}
use Rattle.pas_cache.proofs.{Budget.emptied_events, Routes.{is_large, pages_asked}}
use Rattle.pas_trials.{specs.Borrowing.{Borrows, RestsWithRoom}, proofs.Going.slot_asked}
use Rattle.pas_free_log.specs.declared.noting.EndedRun.{EndedRun}

-- ==== The budget of an actor at rest, call by call.

-- An actor with room for n events more has that budget at rest.
abbrev pub budget_call : {σ : Standing} {c : Cached} {n spare : ℕ} → CanCall σ (RestsWithRoom σ.seat.profile c n spare) → CanCall σ
    (HasBudget σ.seat.profile c n spare)
budget_call can = record { view = can.view; whole = can.whole; stood = can.stood; met = record { rest = can.met.0; room = can.met.1 } }

-- the same the other way round
pub call_budget : {σ : Standing} {c : Cached} {n spare : ℕ} → CanCall σ (HasBudget σ.seat.profile c n spare) → CanCall σ
    (RestsWithRoom σ.seat.profile c n spare)
call_budget can = record { view = can.view; whole = can.whole; stood = can.stood; met = (can.met.rest, can.met.room) }

-- An actor with a budget is at rest.
pub rest_call : {σ : Standing} {c : Cached} {n spare : ℕ} → CanCall σ (HasBudget σ.seat.profile c n spare) → CanCall σ (AtRest σ.seat.profile c)
rest_call can = record { view = can.view; whole = can.whole; stood = can.stood; met = can.met.rest }

-- A call leaves of the budget what it doesn't take for its events and for the deeds that it learns.
pub budget_after : {σ σ' : Standing} {c c' : Cached} {steps : List Made} {n spare spare' : ℕ} (m : ℕ) → Rests c c' σ σ' steps
    → (can : CanCall σ (HasBudget σ.seat.profile c n spare)) → Spares σ spare → Spares σ' spare'
    → (Agreed σ.seat.profile can.view steps
    → m + (length (events_by σ.seat.actor can.view steps) + unknown_pages σ.seat.profile (steps ++ can.view)) ≤ n + unknown_pages σ.seat.profile can.view)
    → CanCall σ' (HasBudget σ'.seat.profile c' m spare')
budget_after {σ} {c} {steps = steps} {n} {spare} {spare'} m calls can law law' paid =
    let ok = calls.adds.agreed can.view can.whole can.stood can.met.rest in
    let left = spare_falls {C = HasBudget σ.seat.profile c n spare} spare spare' _ (adds_under calls.adds (λ v l stood met. met.rest)) can law law' refl in
    search arith

-- ---- requests
-- the request is one that every profile admits
pub admitted : (f : Profile) (size : ℕ) → size ≤ 2048 → IsValid f → IsAdmitted f size 16 0
admitted f size small valid =
    record { within = omega (arith, valid.some_page, small); aligned = (omega arith, omega arith, refl); of_profile = omega (arith, valid.some_heap) }

-- A small request takes two of the budget.
pub asked_left : {σ σ' : Standing} {c c' : Cached} {answer : Result Block NoRoom} {wanted : Wanted} {tells : Bool} {n spare spare' : ℕ} (m : ℕ) → m + 2 ≤ n
    → Allocates wanted tells c c' σ σ' answer → CanCall σ (HasBudget σ.seat.profile c n spare) → Spares σ spare → Spares σ' spare'
    → CanCall σ' (HasBudget σ'.seat.profile c' m spare')
asked_left {σ} m two h can law law' = budget_after m h.calls can law law'
    (λ ok. let few = (h.few σ.seat.actor can.view can.met.rest ok).paid in omega (arith, few, two))

-- The turn of a block that a small request gave is below 2^37.
pub small_turn : {σ σ' : Standing} {c c' : Cached} {wanted : Wanted} {tells : Bool} (answer : Result Block NoRoom) → Allocates wanted tells c c' σ σ' answer
    → CanCall σ (AtRest σ.seat.profile c) → MatchResult answer (λ block. block.name.turn < 2 ^ 37) (λ room. Unit {0})
small_turn answer h can = search arith

-- so many requests were made, and there is room for n events more
pub record BorrowsSoFar (c0 c : Cached) (σ0 σ : Standing) (n spare : ℕ) : Type 0 where
  pub borrows : Borrows c0 c σ0 σ
  pub room : CanCall σ (HasBudget σ.seat.profile c n spare)

-- After one more request the budget is two smaller.
pub one_more : {σ0 σ σ' : Standing} {c0 c c' : Cached} {wanted : Wanted} {tells : Bool} {answer : Result Block NoRoom} {n m spare spare' : ℕ} → m + 2 ≤ n
    → BorrowsSoFar c0 c σ0 σ n spare → Allocates wanted tells c c' σ σ' answer → Spares σ spare → Spares σ' spare' → BorrowsSoFar c0 c' σ0 σ' m spare'
one_more {σ0} {σ} {c' = c'} {m = m} two so h law law' =
    let same : σ.seat ≡ σ0.seat = so.borrows.rests.adds.seat_is in
    record {
      borrows = record {
        steps = h.steps ++ so.borrows.steps;
        rests = call_then (λ v w. AtRest σ0.seat.profile c' w) so.borrows.rests h.calls (λ v met rest. rw same rest) (λ v met rest next. rw same at next);
        log = (slot_asked h).log ∙ so.borrows.log;
      };
      room = asked_left m two h so.room law law';
    }

-- ---- the free of a name into a log that isn't full
empties_none : (full : Bool) (actor : ℕ) (log kept : List Entry) (noted noted' : List EndedRun) (steps : List Made) → full ≡ nat_le 64 (length log)
    → length log < 64 → EmptiesFull full actor log kept noted noted' steps → (kept ≡ log) × (steps ≡ [])
empties_none full actor log kept noted noted' steps is few h = search (arith, leb-true)

-- no step is made, and at most one name comes to the log
pub record LogsOne (c c' : Cached) (steps : List Made) : Type 0 where
  pub log : length c'.log ≤ length c.log + 1
  pub no_steps : steps ≡ []

logs_one : (f : Profile) (actor : ℕ) (c c' : Cached) (name : Name) (steps : List Made) (answer : Result (Unit {0}) FreeFault) → length c.log < 64
    → MatchResult answer (λ done. TakesEntry f actor c c' (entry_of name) steps) (RefusesName f c c' name steps) → LogsOne c c' steps
logs_one f actor c c' name steps answer few h = search (arith, empties_none, length-append)

-- A free of one name logs it.
pub freed_one : {σ σ' : Standing} {c c' : Cached} {name : Name} {answer : Result (Unit {0}) FreeFault} → length c.log < 64
    → (h : Frees (entry_of name) c c' σ σ' answer) → LogsOne c c' h.steps
freed_one {σ} {σ'} {c} {c'} {name} {answer} few h = logs_one σ.seat.profile σ.seat.actor c c' name h.steps answer few h.outcome

-- an empty log isn't full
pub empty_few : {xs : List Entry} → xs ≡ [] → length xs < 64
empty_few none = let n = ap length none in omega (arith, n)

-- It takes nothing of the budget.
pub freed_budget : {σ σ' : Standing} {c c' : Cached} {name : Name} {answer : Result (Unit {0}) FreeFault} {n spare spare' : ℕ} → length c.log < 64
    → (h : Frees (entry_of name) c c' σ σ' answer) → CanCall σ (HasBudget σ.seat.profile c n spare) → Spares σ spare → Spares σ' spare'
    → CanCall σ' (HasBudget σ'.seat.profile c' n spare')
freed_budget {n = n} few h can law law' = budget_after n h.calls can law law' (λ ok. rw (freed_one few h).no_steps (omega arith))

-- ---- a stop and a flush, which take what the names in the log ask for
pub stopped_budget : {σ σ' : Standing} {c c' : Cached} {n spare spare' : ℕ} → length c.log ≤ 1 → (h : StopsCache c c' σ σ')
    → CanCall σ (HasBudget σ.seat.profile c (n + 1) spare) → Spares σ spare → Spares σ' spare' → CanCall σ' (HasBudget σ'.seat.profile c' n spare')
stopped_budget {σ} {σ'} {c} {c'} {n} one h can law law' =
    let k : ℕ = σ.seat.actor in
    let events : length (events_by k can.view (h.stopped ++ h.flushed)) ≡ length (events_by k can.view h.flushed) = search (arith, events_append) in
    let ended = emptied_events k c.log c.noted c'.noted h.flushed can.view h.empties in
    budget_after n (call_as (λ v w. AtRest σ.seat.profile c' w) h.calls (λ v rest. rest) (λ v w rest done. done.0)) can law law'
    (λ ok. let unknown = unknown_no_more σ.seat.profile (h.stopped ++ h.flushed) can.view ok in omega (arith, events, ended, one, unknown))

pub flushed_budget : {σ σ' : Standing} {c c' : Cached} {spare spare' : ℕ} (n m : ℕ) → length c.log ≤ m → (h : FlushesLog c c' σ σ')
    → CanCall σ (HasBudget σ.seat.profile c (n + m) spare) → Spares σ spare → Spares σ' spare' → CanCall σ' (HasBudget σ'.seat.profile c' n spare')
flushed_budget {σ} {σ'} {c} {c'} n m few h can law law' =
    let ended = emptied_events σ.seat.actor c.log c.noted c'.noted h.steps can.view h.empties in
    budget_after n h.calls can law law' (λ ok. let unknown = unknown_no_more σ.seat.profile h.steps can.view ok in omega (arith, few, ended, unknown))

-- the runs that a cache noted are no part of its rest
pub settled_budget : {σ : Standing} {c c' : Cached} {n spare : ℕ} → c' ≡ record c { noted = [] } → CanCall σ (HasBudget σ.seat.profile c n spare)
    → CanCall σ (HasBudget σ.seat.profile c' n spare)
settled_budget is can =
    search arith

-- ---- requests for whole pages
-- an actor with room for n events may ask for that many pages less one
pub may_ask : {σ : Standing} {c : Cached} {n spare : ℕ} (pages : ℕ) → pages + 1 ≤ n → CanCall σ (RestsWithRoom σ.seat.profile c n spare)
    → CanCall σ (MayAllocatePages σ.seat.profile c pages spare)
may_ask pages fits can =
    record { view = can.view; whole = can.whole; stood = can.stood; met = record { rest = can.met.0; room = omega (arith, fits, can.met.1) } }

-- A request makes one event more at most, served or refused.
few_events : (n : ℕ) (answer : Result Block NoRoom) → most_events n answer ≤ n + 1
few_events n answer = grind arith

-- A request for one page takes two of the room.
pub page_asked : {σ σ' : Standing} {c c' : Cached} {found : Option ℕ} {tells : Bool} {answer : Result Block NoRoom} {n spare spare' : ℕ} (m : ℕ) → m + 2 ≤ n
    → AllocatesPages (wanted_for σ.seat.profile 0 4096 16) found tells c c' σ σ' answer
    → CanCall σ (RestsWithRoom σ.seat.profile c n spare) → Spares σ spare → Spares σ' spare' → CanCall σ' (RestsWithRoom σ'.seat.profile c' m spare')
page_asked {σ} {answer = answer} m two h can law law' =
    let f : Profile = σ.seat.profile in
    let most = few_events (pages_of (wanted_for f 0 4096 16)) answer in
    let one = pages_asked f 4096 16 (is_large f.classes 4096 16 (omega arith)) in
    call_budget (budget_after m h.calls (budget_call can) law law'
    (λ ok. let few = h.few σ.seat.actor can.view can.met.0 ok in omega (arith, few, most, one, two)))
