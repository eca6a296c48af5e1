-- Each event of steps of the region can be shown.
use Rattle.std.{proofs.Common.{ℕ, List, subst}, specs.List.AllByRecursion}
use Rattle.pas_profile.specs.declared.{profile.Profile.Profile, event.Event.Event}
use Rattle.pas_steps.{specs.{Allowed.IsStepOf, Events.events_by, Past.Always, Views.View, declared.step.{Made.Made, Step.Step}}, proofs.Events.ComesOf}
use Rattle.pas_steps.proofs.Events.{comes_of, each_event}
use Rattle.pas_records.specs.Lines.{IsShowable}

-- the steps are of the region
abbrev pub AreOfRegion : Profile → List Made → Type 0
AreOfRegion f = Always (λ m before. IsStepOf f m.step)

abbrev pub AreShowable : List Event → Type 0
AreShowable es = AllByRecursion IsShowable es

event_showable : (f : Profile) (k : ℕ) (s : Step) (a : ℕ) (e : Event) → IsStepOf f s → ComesOf k s a e → IsShowable e
event_showable f k s a (Event.Deed j page d) of comes = (subst (IsStepOf f) comes.step.0 of).1.kind
event_showable f k s a e of comes = tt

-- Each event of steps of the region can be shown.
pub steps_showable : (f : Profile) (k : ℕ) (steps : List Made) (v : View) → AreOfRegion f steps → AreShowable (events_by k v steps)
steps_showable f k steps v of = each_event IsShowable (λ m before. IsStepOf f m.step) k v (λ m before epoch e of is. event_showable f k m.step m.answer e of (comes_of k epoch m.step m.answer e is)) steps of
