-- Errands of an actor that is at rest with its cache, and what an actor that has nothing did.
use Rattle.std.proofs.Common.{◌≡◌, ℕ, zero, suc, ◌≤◌, List, [], ◌∷◌, ◌++◌, Bool, Option, None, Result, refl, ap, sym, ◌∙◌, subst, arith}
use Rattle.pas_profile.specs.declared.{event.NoRoom.NoRoom, name.Block.Block, profile.Profile.Profile, entry.Entry.Entry}
use Rattle.pas_steps.specs.{Calls.Calls, Clear.HasNothing, Kinds.Ticking, Unknown.{unknown_here, unknown_below}, Views.{View, known_deed}, Desks.Standing}
use Rattle.pas_steps.{specs.{Desks.{Seat, CanCall, Makes, made}, declared.step.{Made.Made, Step.TheVariants.Tick}}, proofs.{Adding.adds_under, Calls.does_idly}}
use Rattle.pas_steps.proofs.{Unknown.has_room, Nothing.nothing_still, Called.{call_none, call_step, call_as, call_then, next_call}}
use Rattle.pas_free_log.specs.{Flushes.Flushes, declared.noting.EndedRun.EndedRun}
use Rattle.pas_cache.specs.{Caches.{Cached, AtRest}, Serves.Wanted, Calls.{MayAllocate, Allocates, MayAllocatePages, AllocatesPages, StopsCache, Rests}}
use Rattle.pas_cache.proofs.{Budget.log_kept, FlushesAndFrees.rests_empty, Resting.rests_kept}
use Rattle.pas_plain.specs.Storms.{Acts}
use Rattle.pas_trials.specs.{Borrowing.{Borrows, RestsWithRoom}, SharedStorms.IsWorking}

-- ==== Errands of an actor that is at rest with its cache.

-- ---- room
few_here : (deed : ℕ) → unknown_here deed ≤ 1
few_here deed = grind arith

-- There are no more unknown pages below a bound than pages.
pub few_below : (n : ℕ) (v : View) → unknown_below n v ≤ n
few_below zero v = omega arith
few_below (suc n) v = let here = few_here (known_deed v (suc n)) in let below = few_below n v in omega (arith, here, below)

-- Where there is room for so many events more, there is for fewer.
pub fewer : {σ : Standing} {c : Cached} {n spare : ℕ} (m : ℕ) → m ≤ n → CanCall σ (RestsWithRoom σ.seat.profile c n spare)
    → CanCall σ (RestsWithRoom σ.seat.profile c m spare)
fewer m less can = record { view = can.view; whole = can.whole; stood = can.stood; met = (can.met.0, omega (arith, can.met.1, less)) }

-- An actor at rest with enough room may allocate a slot.
pub room_for_slot : {σ : Standing} {c : Cached} {spare : ℕ} → 70 ≤ spare → σ.seat.profile.pages ≤ 30 → CanCall σ (AtRest σ.seat.profile c)
    → CanCall σ (MayAllocate σ.seat.profile c spare)
room_for_slot {σ} {c} {spare} room few can =
    search (arith, few_below, has_room)

-- An actor at rest with enough room may allocate pages.
pub room_for_pages : {σ : Standing} {c : Cached} {spare : ℕ} (n : ℕ) → 70 ≤ spare → σ.seat.profile.pages ≤ 30 → n ≤ σ.seat.profile.pages
    → CanCall σ (AtRest σ.seat.profile c) → CanCall σ (MayAllocatePages σ.seat.profile c n spare)
room_for_pages {σ} {c} {spare} n room few within can =
    search (arith, few_below)

-- ---- requests
pub slot_asked : {σ σ' : Standing} {c c' : Cached} {wanted : Wanted} {tells : Bool} {answer : Result Block NoRoom} → Allocates wanted tells c c' σ σ' answer
    → Borrows c c' σ σ'
slot_asked {σ} {σ'} {c} {c'} {wanted} {tells} {answer} h = record { steps = h.steps; rests = h.calls; log = log_kept σ.seat.profile wanted None c c' h.steps answer wanted.route h.change }

-- A request for pages that was asked is an errand.
pub pages_asked : {σ σ' : Standing} {c c' : Cached} {wanted : Wanted} {found : Option ℕ} {tells : Bool} {answer : Result Block NoRoom}
    → AllocatesPages wanted found tells c c' σ σ' answer → Borrows c c' σ σ'
pages_asked {σ} {σ'} {c} {c'} {wanted} {found} {tells} {answer} h = record { steps = h.steps; rests = h.calls; log = log_kept σ.seat.profile wanted found c c' h.steps answer wanted.route h.change }

-- ---- a flush of another log than that of the cache
pub log_flushed : {σ σ' : Standing} {logged : List Entry} {ended ended' : List EndedRun} (c : Cached) → Flushes logged ended ended' σ σ' → Borrows c c σ σ'
log_flushed {σ} c h = let f : Profile = σ.seat.profile in record {
  steps = h.steps;
  rests = record {
    adds = adds_under h.calls.adds (λ v l stood rest. rest.locals.clear);
    leads = record {
      from = λ v rest agreed. record {
        locals = rests_kept f c.locals h.steps v (h.calls.leads.from v rest.locals.clear agreed) agreed rest.locals;
        few = rest.few;
        entries = rest.entries;
        few_entries = rest.few_entries;
      };
    };
  };
  log = refl;
}

-- ---- a stop, and what an actor with an empty cache does then
pub stopped_then : {σ σ1 σ2 : Standing} {c c' : Cached} {steps : List Made} → c.log ≡ [] → StopsCache c c' σ σ1
    → Calls σ1 σ2 HasNothing (λ v w. HasNothing w) steps → Borrows c c' σ σ2
stopped_then {σ} {σ1} {σ2} {c} {c'} {steps} log h quiet = let f : Profile = σ.seat.profile in record {
  steps = steps ++ (h.stopped ++ h.flushed);
  rests = call_then (λ v w. AtRest f c' w) h.calls quiet (λ v rest done. done.1) (λ v rest done none. rests_empty f c'
      (steps ++ ((h.stopped ++ h.flushed) ++ v)) (ap (λ (x : Cached). x.locals) h.cache) (ap (λ (x : Cached). x.log) h.cache) none);
  log = ap (λ (x : Cached). x.log) h.cache ∙ sym log;
}

-- A tick leaves an actor that has nothing with nothing.
pub ticked : {σ σ' : Standing} (epoch t : ℕ) → Makes σ σ' (Tick epoch) t → Calls σ σ' HasNothing (λ v w. HasNothing w) (made (Tick epoch) t ∷ [])
ticked {σ} epoch t makes = call_step (λ v w. HasNothing w) (call_none {R = λ v w. HasNothing w} (λ v met. met)) makes (λ v met is. tt)
    (λ v met is agrees. nothing_still (does_idly σ.seat.profile (Ticking ∷ []) refl (made (Tick epoch) t ∷ []) v (refl, tt) (agrees, tt)) met)

-- ---- a visit: an errand with an empty cache, and the stop of the cache
module _ {σ σ1 : Standing} {c c1 : Cached} (locals : c.locals ≡ []) (log : c.log ≡ []) (goes : Borrows c c1 σ σ1) where
  from_nothing : Calls σ σ1 HasNothing (λ v w. AtRest σ.seat.profile c1 w) goes.steps
  from_nothing = call_as (λ v w. AtRest σ.seat.profile c1 w) goes.rests (λ v none. rests_empty σ.seat.profile c v locals log none) (λ v w none rest. rest)

  rests_then : (v : View) → AtRest σ.seat.profile c1 v → AtRest σ1.seat.profile c1 v
  rests_then v rest = subst (λ (s : Seat). AtRest s.profile c1 v) (sym goes.rests.adds.seat_is) rest

  -- After an errand of an actor that had nothing its cache may be stopped,
  pub may_stop : CanCall σ HasNothing → CanCall σ1 (AtRest σ1.seat.profile c1)
  may_stop can = next_call from_nothing can (λ v none rest. rests_then (goes.steps ++ v) rest)

  -- .. and both are a visit.
  pub visited : {σ2 : Standing} {c2 : Cached} → StopsCache c1 c2 σ1 σ2 → Acts σ σ2
  visited stops = record {
    steps = (stops.stopped ++ stops.flushed) ++ goes.steps;
    calls = call_then (λ v w. HasNothing w) from_nothing stops.calls (λ v none rest. rests_then (goes.steps ++ v) rest) (λ v none rest done. done.1);
  }

-- ==== After a call of a cache its actor goes on.

-- An actor that works with a cache goes on working after a call that leaves it at rest.
pub works_on : {σ σ' : Standing} {c c' : Cached} {steps : List Made} {n n' : ℕ} (room : ℕ) → IsWorking σ c room n → n' ≡ n → Rests c c' σ σ' steps
    → IsWorking σ' c' room n'
works_on {σ} {σ'} {c} {c'} room working same calls = search (arith, next_call)
