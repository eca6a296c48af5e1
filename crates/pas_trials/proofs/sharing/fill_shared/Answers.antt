use Rattle.std.proofs.Common.{◌≡◌, ℕ, List, ap, sym, subst}
use Rattle.pas_profile.specs.{Classes.IsClass, declared.profile.Profile.Profile}
use Rattle.pas_segregated.specs.{Refills.GivesSlots, declared.slots.Slots.Slots}
use Rattle.pas_steps.specs.declared.step.Made.{Made}
use Rattle.pas_partial.specs.Refills.{shared_directory, shared_slots}
use Rattle.pas_trials.proofs.Firsts.{given_of_region, can_stop, with_stop}
use Rattle.pas_trials.proofs.sharing.fill_shared.Goals as goal

home_given : {f : Profile} {heap class : ℕ} {searched after : List Made} {slots : Slots} → GivesSlots (shared_slots heap class) f searched after slots
    → shared_directory slots.heap ≡ shared_directory heap
home_given gives = ap (λ d. shared_directory d.heap) gives.home

pub stop_where-requires-clause-directory : goal.stop_where-requires-clause-directory
stop_where-requires-clause-directory g c = given_of_region (home_given c.in-Ok.ensures.refills.outcome) c.in-Ok.ensures.refills c.requires.directory

pub stop_where-requires-clause-class : goal.stop_where-requires-clause-class
stop_where-requires-clause-class g c = subst IsClass (sym c.in-Ok.ensures.refills.outcome.class_is) c.requires.class

pub stop_where-requires-clause-can : goal.stop_where-requires-clause-can
stop_where-requires-clause-can g c = can_stop (home_given c.in-Ok.ensures.refills.outcome) c.in-Ok.ensures.refills c.requires.can

pub returns : goal.returns
returns g c = record { steps = with_stop (home_given c.in-Ok.ensures.refills.outcome) c.in-Ok.ensures.refills c.stop_where.ensures.steps }
