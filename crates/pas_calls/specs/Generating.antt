-- What a generated trace comes to.
use Rattle.std.specs.Prelude.{ℕ, ◌≡◌, List}
use Rattle.pas_steps.specs.Lists.{Whole, visible}
use Rattle.pas_trace.specs.{Plans.IsPlanOf, declared.plan.Plan.Plan}
use Rattle.pas_generate.specs.Traces.{trace_text}
use Rattle.pas_report.specs.Reports.{total_line}
use Rattle.pas_records.specs.declared.record.Record.{Record}
use Rattle.pas_answers.specs.{Replays.IsReplay, Ways.InOrder}
use Rattle.pas_telling.specs.Summaries.{summary_text}

-- The text is the summary of a replay of the generated trace: the numbers of lines by the replay's records, and the totals of the machine that
-- the visible events of its list reach.
pub record IsSummarized (seed ops threads pages : ℕ) (text : List ℕ) : Type 0 where
  pub plan : Plan
  pub read : IsPlanOf (trace_text seed ops threads pages) plan
  pub whole : Whole
  pub records : List Record
  pub replay : IsReplay InOrder plan whole records
  pub text_is : text ≡ summary_text ops records (total_line plan.profile (visible whole))
