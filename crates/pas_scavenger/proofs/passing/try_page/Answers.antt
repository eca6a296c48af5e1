use Rattle.std.proofs.Common.{sym, ◌∙◌}
use Rattle.pas_scavenger.proofs.Examinations.{can_examine, tries_none, tries_some}
use Rattle.pas_scavenger.proofs.passing.try_page.Goals as goal

pub examine-outcome-requires-clause-can : goal.examine-outcome-requires-clause-can
examine-outcome-requires-clause-can g c = can_examine c.args.page c.args.epoch c.unhint-old.result c.unhint-old.ensures.makes c.requires.can

pub returns-then-has_page-clause-tries : goal.returns-then-has_page-clause-tries
returns-then-has_page-clause-tries g c = tries_some _ _ _ c.unhint-old.ensures.makes _ _ (sym c.has_page.ensures ∙ c.if-has_page.true) c.examine-outcome.ensures.examines c.push.ensures.added

pub returns-else-has_page-clause-tries : goal.returns-else-has_page-clause-tries
returns-else-has_page-clause-tries g c = tries_none _ _ _ c.unhint-old.ensures.makes _ (sym c.has_page.ensures ∙ c.if-has_page.false)
