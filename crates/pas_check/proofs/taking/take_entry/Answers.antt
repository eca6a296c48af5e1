use Rattle.std.proofs.Common.{ap, arith, refl, ◌∙◌}
use Rattle.pas_records.specs.Lines.{line_of_event}
use Rattle.pas_check.proofs.OneNext.{entry_place, entry_stepped, one_event}
use Rattle.pas_check.proofs.taking.take_entry.Goals as goal

pub returns-then-not-is_place-clause-taken : goal.returns-then-not-is_place-clause-taken
returns-then-not-is_place-clause-taken c = search (arith, entry_place, c.if-not-is_place.ensures)

pub returns-then-not-is_line-clause-taken : goal.returns-then-not-is_line-clause-taken
returns-then-not-is_line-clause-taken c = (
  refl,
  λ s e stands few same of may has. c.if-not-is_line.ensures
      (has ∙ ap line_of_event (one_event s c.args.actor c.args.entry e c.event_for-event.result of (c.event_for-event.ensures.event s stands same))),
)

pub returns-clause-taken : goal.returns-clause-taken
returns-clause-taken c = search (arith, entry_stepped, c.step.ensures.stepped)
