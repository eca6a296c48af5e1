-- For callers: the room of one request after another.
use Rattle.std.proofs.{Common.{◌≡◌, ℕ, ◌+◌, ◌≤◌, ◌++◌, length, arith, Option, Result, List}, lemmas.List.{length-map, length-reverse}}
use Rattle.pas_profile.specs.declared.{profile.Profile.Profile, directory.Route.Route, event.NoRoom.NoRoom, name.Block.Block, entry.Entry.Entry}
use Rattle.pas_cache.specs.{Serves.{Wanted, ServesBy}, Changes.EmptiesLog, Caches.{Cached, AtRest}, Calls.MayAllocate}
use Rattle.pas_free_log.specs.declared.noting.EndedRun.{EndedRun}
use Rattle.pas_steps.{specs.{Views.View, Events.events_by, Unknown.unknown_pages, Desks.{Standing, CanCall}, declared.step.Made.Made}, proofs.Adding.adds_none}
use Rattle.pas_steps.proofs.{Adding.can_call, Unknown.has_room}

-- The actor is at rest, and there is room for n events and for a deed of each page whose deed isn't known.
pub record HasBudget (f : Profile) (c : Cached) (n spare : ℕ) (v : View) : Type 0 where
  pub rest : AtRest f c v
  pub room : n + unknown_pages f v ≤ spare

-- two of the n are enough for a request
pub may_allocate : {σ : Standing} {c : Cached} {spare : ℕ} (n : ℕ) → 2 ≤ n → CanCall σ (HasBudget σ.seat.profile c n spare)
    → CanCall σ (MayAllocate σ.seat.profile c spare)
may_allocate {σ} {spare = spare} n two can = can_call adds_none can (λ v l stood met. record { rest = met.rest; room = has_room σ.seat.profile 2 spare v (omega (arith, two, met.room)) })

-- no request changes the log
pub log_kept : (f : Profile) (wanted : Wanted) (found : Option ℕ) (c c' : Cached) (steps : List Made) (answer : Result Block NoRoom) (route : Route)
    → ServesBy route f wanted found c c' steps answer → c'.log ≡ c.log
log_kept f wanted found c c' steps answer route h = grind arith

-- ---- a log is emptied
-- each entry makes one event
pub emptied_events : (k : ℕ) (logged : List Entry) (noted noted' : List EndedRun) (steps : List Made) (v : View) → EmptiesLog k logged noted noted' steps
    → length (events_by k v steps) ≡ length logged
emptied_events k logged noted noted' steps v empties = search (arith, length-map, length-reverse)
