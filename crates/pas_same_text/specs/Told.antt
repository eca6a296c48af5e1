-- WHAT IS WRITTEN OF A REPLAY, told by a state of the text.
use Rattle.std.specs.Prelude.{◌≡◌, List, ◌++◌, reverse}
use Rattle.pas_steps.specs.Lists.{Whole, visible}
use Rattle.pas_records.specs.{Lines.lines_of, Marks.marks_after, declared.record.Record.Record}
use Rattle.pas_report.specs.Reports.{report_text}
use Rattle.pas_trace.specs.declared.plan.Plan.{Plan}
use Rattle.pas_answers.specs.Replays.{region_of}
use Rattle.pas_same_text.specs.{State.World, Reports.text_of}

-- The text of the state is what is written of the replay: the lines of its records, and the report of the machine that its events reach, with the marks after its list. The
-- state has its records and its events.
pub record IsTold (plan : Plan) (whole : Whole) (records : List Record) (w : World) : Type 0 where
  pub text : text_of (region_of plan) w ≡ lines_of records ++ report_text (region_of plan) (visible whole) (marks_after whole)
  pub records_are : reverse w.records ≡ records
  pub events_are : w.events ≡ visible whole
