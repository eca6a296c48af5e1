-- The first call of an actor, what a refill gave, and its stop.
use Rattle.std.proofs.Common.{◌≡◌, ◌-◌, Bool, [], length, reverse, Ok, refl, ap, sym, ◌∙◌, subst, arith, ℕ, ◌++◌, List}
use Rattle.pas_profile.specs.{Profiles.IsDirectoryOf, declared.{directory.Directory.Directory, profile.Profile.Profile}}
use Rattle.pas_steps.specs.{Events.events_of, Lists.Whole, Views.View, Desks.{CanCall, Standing}, Noted.{events_noted, room_of_notes}, declared.step.Made.Made}
use Rattle.pas_steps.proofs.{Adding.{adds_call, can_call}, Nothing.nothing_yet}
use Rattle.pas_search.specs.Searches.{MaySearch, SearchRoom}
use Rattle.pas_shared.specs.{Passes.{view_of, seat_of, standing_of}, declared.{pass.SharedPass.SharedPass, desk.SharedDesk.SharedDesk}}
use Rattle.pas_segregated.specs.{Refills.{Filling, exclusive_slots, GivesSlots, Refills}, Stops.{class_directory, directory_of, MayStopAt}}
use Rattle.pas_segregated.specs.declared.slots.Slots.{Slots}
use Rattle.pas_trials.specs.Filling.{Steps}

-- ==== The first call of an actor.

may_search : (d : Directory) (v : View) → v ≡ [] → MaySearch d v
may_search d v is = subst (λ (w : View). MaySearch d w) (sym is) record { rights = λ p of. refl; clear = nothing_yet.clear }

-- they made no event
pub no_events : (pass : SharedPass) → view_of pass ≡ [] → length (events_noted pass.notes) ≡ 0
no_events pass none = ap length (pass.noted.shown ∙ ap (λ (v : View). reverse (events_of (seat_of pass).actor v)) none)

-- A pass that did nothing may search, with room for two events.
pub can_search : (desk : SharedDesk) (d : Directory) → view_of desk.pass ≡ [] → (seat_of desk.pass).room ≡ 2
    → CanCall (standing_of desk) (SearchRoom (seat_of desk.pass).profile d 1 (room_of_notes desk.pass.notes - length (events_noted desk.pass.notes)))
can_search desk d none room =
    search (arith, no_events, may_search)

-- ==== What a refill gave, and its stop.

-- what a refill gave may be stopped
pub given_directory : {f : Profile} {heap class : ℕ} {searched after : List Made} {slots : Slots}
    → GivesSlots (exclusive_slots heap class) f searched after slots → directory_of slots ≡ class_directory heap class
given_directory {heap = heap} {slots = slots} gives = ap (λ h. class_directory h slots.class) (ap (λ d. d.heap) gives.home) ∙ ap (class_directory heap) gives.class_is

-- Slots that a refill gave may be stopped where their directory is that of the refill.
module _ {fill : Filling} {tells : Bool} {σ σ1 : Standing} {slots : Slots} {d : Directory} (same : d ≡ fill.directory) (r : Refills fill tells σ σ1
    (Ok slots)) where
  stops_there : (v : View) (l : Whole) → σ.stands v l → MaySearch fill.directory v → MayStopAt d slots ((r.after ++ r.searched) ++ v)
  stops_there v l stood may = rw same (r.outcome.gets.from v may (r.adds.agreed v l stood may)).may_stop

  pub given_of_region : IsDirectoryOf σ.seat.profile fill.directory → IsDirectoryOf σ1.seat.profile d
  given_of_region of = rw (r.adds.seat_is, same) of

  pub can_stop : {n spare : ℕ} → CanCall σ (SearchRoom σ.seat.profile fill.directory n spare) → CanCall σ1 (MayStopAt d slots)
  can_stop can =
      search (arith, can_call, stops_there)

  pub with_stop : {σ2 : Standing} → Steps σ1 σ2 (MayStopAt d slots) → Steps σ σ2 (MaySearch fill.directory)
  with_stop stopped = record { steps = stopped.steps ++ (r.after ++ r.searched); adds = adds_call r.adds stopped.adds stops_there }
