-- What of an outcome can be written, its text and its status.
use Rattle.std.specs.Prelude.{ℕ, List, ◌++◌, All}
use Rattle.pas_steps.specs.declared.state.State.{State}
use Rattle.pas_records.specs.{Rooms.records_in, Lines.{lines_of, CanShow}, declared.record.Record.Record}
use Rattle.pas_report.specs.Counts.{AreDeedWords, report_by_words}
use Rattle.pas_telling.specs.{Faults.fault_text, declared.outcome.Outcome.{Outcome, TheVariants.{Replayed, Faulty}}}

-- records and a state that can be written
pub record IsShown (records : List Record) (state : State) : Type 0 where
  pub lines : All CanShow records
  pub deeds : AreDeedWords state

abbrev pub IsWritable : Outcome → Type 0
IsWritable (Replayed records state) = IsShown (records_in records) state
IsWritable (Faulty fault) = Unit {0}

-- ---- the text of an outcome, and its status
abbrev pub shown_text : List Record → State → List ℕ
shown_text records state = lines_of records ++ report_by_words state

abbrev pub outcome_text : Outcome → List ℕ
outcome_text (Replayed records state) = shown_text (records_in records) state
outcome_text (Faulty fault) = fault_text fault

abbrev pub outcome_status : Outcome → ℕ
outcome_status (Replayed records state) = 0
outcome_status (Faulty fault) = 1
