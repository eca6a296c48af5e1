use Rattle.std.proofs.Common.{arith, ap, ◌∙◌}
use Rattle.pas_check.{specs.Lines.is_line, proofs.{Cuts.totals_end, Pages.totals_led}}
use Rattle.pas_check.proofs.reporting.take_totals.Goals as goal

pub take_line-requires-clause-line : goal.take_line-requires-clause-line
take_line-requires-clause-line c = ap is_line (c.as_bytes.ensures.value ∙ c.deref.ensures.0 ∙ c.shown_totals-wanted.ensures) ∙ totals_end c.total.result

pub returns-clause-led : goal.returns-clause-led
returns-clause-led c = search (arith, totals_led)
