use Rattle.std.proofs.Common.{refl, inl, inr, ap, sym}
use Rattle.pas_profile.specs.declared.event.Event.{Event}
use Rattle.pas_check.proofs.taking.event_for.Goals as goal

pub returns-in-Some-clause-event : goal.returns-in-Some-clause-event
returns-in-Some-clause-event c = λ s stands same. let is = c.in-Some.ensures s.events stands in inl (c.in-Some.why, is.0, is.1, refl)

pub returns-in-None-clause-event : goal.returns-in-None-clause-event
returns-in-None-clause-event c = λ s stands same. inr (c.in-None.ensures s.events stands, ap (Event.End c.args.actor c.args.entry.name) (sym same))
