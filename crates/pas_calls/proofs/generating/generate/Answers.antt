use Rattle.std.proofs.Common.{◌∙◌, List, ap, subst, inr, refl}
use Rattle.pas_report.specs.Counts.{totals_by_words}
use Rattle.pas_records.specs.{Rooms.records_in, declared.record.Record.Record}
use Rattle.pas_answers.specs.Ways.{InOrder}
use Rattle.pas_calls.{specs.{Outcomes.IsOutcome, Generating.IsSummarized}, proofs.{Headline.summary_told, Statuses.summarized}}
use Rattle.pas_telling.specs.Summaries.{summary_text}
use Rattle.pas_calls.proofs.generating.generate.Goals as goal

pub returns-in-Ok-Replayed-clause-told : goal.returns-in-Ok-Replayed-clause-told
returns-in-Ok-Replayed-clause-told g c =
    let job = c.args.job in
    let text_is = c.as_str.ensures.value
    ∙ (c.summary_of-summary.ensures ∙ ap (λ (rs : List Record). summary_text job.ops rs (totals_by_words c.in-Ok-Replayed.state)) c.as_slice.ensures) in
    let is : IsSummarized job.seed job.ops job.threads job.pages c.as_str.result.now =
    summarized job.seed job.ops job.threads job.pages c.in-Ok.text.items (records_in c.in-Ok-Replayed.records) c.in-Ok-Replayed.state c.as_str.result.now
    (subst (IsOutcome InOrder c.in-Ok.text.items) c.in-Ok-Replayed.field-0-is c.in-Ok-Replayed.ensures) c.in-Ok.ensures.text text_is
    in
    inr (0, c.as_str.result.now, (refl, is, summary_told job.seed job.ops job.threads job.pages c.as_str.result.now is), c.tell.ensures)
