use Rattle.pas_calls.proofs.{Headline.can_show, Statuses.{cut_in_lines, report_told, cut_in_report}}
use Rattle.pas_calls.proofs.ordering.write_in_order.Goals as goal

pub returns-then-failed : goal.returns-then-failed
returns-then-failed g c text plan may = cut_in_lines (c.write_lines_in_order-state.ensures text plan may) c.if-failed.true

pub report-requires : goal.report-requires
report-requires g c =
    let plan = c.requires.plan in
    (can_show plan.2.read (c.write_lines_in_order-state.ensures plan.0 plan.1 plan.2).shows).deeds

pub returns-in-Ok : goal.returns-in-Ok
returns-in-Ok g c text plan may = report_told (c.write_lines_in_order-state.ensures text plan may) c.if-failed.false c.in-Ok.ensures.whole c.in-Ok.ensures.sound

pub returns : goal.returns
returns g c text plan may = cut_in_report (c.write_lines_in_order-state.ensures text plan may) c.if-failed.false c.in-Err.ensures.front c.in-Err.ensures.failed
