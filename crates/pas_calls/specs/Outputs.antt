-- What the top call writes, for each status, and why.
use Rattle.std.specs.Prelude.{ℕ, ◌<◌, ◌≤◌, ◌≡◌, ◌⊎◌, List, ◌++◌, Option, Some, Err, length, codes}
use Rattle.pas_steps.specs.Lists.{Whole, visible}
use Rattle.pas_trace.specs.{Plans.{IsPlanOf, parsed}, declared.{plan.Plan.Plan, fault.TraceFault.TraceFault}}
use Rattle.pas_records.specs.{Lines.lines_of, Marks.marks_after, declared.record.Record.Record}
use Rattle.pas_report.specs.Reports.{report_text}
use Rattle.pas_answers.specs.{Replays.IsReplay, Ways.Way}
use Rattle.pas_check.specs.{Inputs.trace_in, declared.verdict.Verdict.Verdict}
use Rattle.pas_io.specs.{Inputs.Takes, Told.{Rose, Writes, WritesFront}}
use Rattle.pas_telling.specs.{Faults.fault_text, declared.manner.Manner.Manner}
use Rattle.pas_calls.specs.{Generating.IsSummarized, Judgements.{IsJudged, verdict_status, verdict_text}, Manners.way_of, OneText.{IsTextBy, IsSummaryOf}}
pub use Rattle.pas_telling.specs.Words.{texts_of, IsReplaying, IsChecking, ReadsInput, IsGen, IsAccepted}

-- the most bytes of an input
abbrev pub most_bytes : ℕ
most_bytes = 16777216

-- THE HEADLINE, for both ways. The bytes are a trace, and the text is that of a replay of its plan: a line for each of the replay's records, and then
-- the report of the machine that the visible events of its list reach, where each page has the marks that the words after the list say.
pub record IsReplayed (way : Way) (bytes text : List ℕ) : Type 0 where
  pub plan : Plan
  pub read : IsPlanOf bytes plan
  pub whole : Whole
  pub records : List Record
  pub replay : IsReplay way plan whole records
  pub text_is : text ≡ lines_of records ++ report_text plan.profile (visible whole) (marks_after whole)

abbrev pub usage_text : List ℕ
usage_text = codes "usage: pas order | pas run | pas check | pas gen SEED OPS THREADS PAGES\n"

abbrev pub too_long_text : List ℕ
too_long_text = codes "input too long\n"

-- ---- what an input of the source comes to, replayed in a way, with the status and the text
-- 0: its replay, and in the order of the text that is the text of the bytes; 1: its first fault; 6: it is too long
pub record IsTranscript (way : Way) (bytes text : List ℕ) : Type 0 where
  pub short : length bytes ≤ most_bytes
  pub replayed : IsReplayed way bytes text
  pub told : IsTextBy way bytes text

pub record IsFaulty (bytes text : List ℕ) : Type 0 where
  pub short : length bytes ≤ most_bytes
  pub fault : TraceFault
  pub first : parsed bytes ≡ Err fault
  pub text_is : text ≡ fault_text fault

pub record IsTooLong (bytes text : List ℕ) : Type 0 where
  pub long : most_bytes < length bytes
  pub text_is : text ≡ too_long_text

abbrev pub ComesTo : Way → List ℕ → ℕ → List ℕ → Type 0
ComesTo way bytes status text = ((status ≡ 0) × IsTranscript way bytes text) ⊎ ((status ≡ 1) × IsFaulty bytes text) ⊎ ((status ≡ 6) × IsTooLong bytes text)

-- ---- what an input comes to under a check, with the status and the text
-- 0, 8: the verdict on it; 1: the first fault of its trace; 6: it is too long
pub record HasVerdict (bytes : List ℕ) (status : ℕ) (text : List ℕ) : Type 0 where
  pub short : length bytes ≤ most_bytes
  pub verdict : Verdict
  pub judged : IsJudged bytes verdict
  pub status_is : status ≡ verdict_status verdict
  pub text_is : text ≡ verdict_text verdict

pub record HasFaultyTrace (bytes text : List ℕ) : Type 0 where
  pub short : length bytes ≤ most_bytes
  pub fault : TraceFault
  pub first : parsed (trace_in bytes) ≡ Err fault
  pub text_is : text ≡ fault_text fault

abbrev pub ChecksTo : List ℕ → ℕ → List ℕ → Type 0
ChecksTo bytes status text = HasVerdict bytes status text ⊎ ((status ≡ 1) × HasFaultyTrace bytes text) ⊎ ((status ≡ 6) × IsTooLong bytes text)

-- the statuses of a replay of an input, and of a check of one, but for those of memory and of a source or a sink that failed
abbrev pub IsReplayStatus : ℕ → Type 0
IsReplayStatus status = (status ≡ 0) ⊎ (status ≡ 1) ⊎ (status ≡ 6)

abbrev pub IsCheckStatus : ℕ → Type 0
IsCheckStatus status = IsReplayStatus status ⊎ (status ≡ 8)

-- what a generated trace comes to, with the status 0 and the text: the summary of its replay, which is that of its numbers
abbrev pub GenComesTo : ℕ → ℕ → ℕ → ℕ → ℕ → List ℕ → Type 0
GenComesTo seed ops threads pages status text = (status ≡ 0) × IsSummarized seed ops threads pages text × IsSummaryOf seed ops threads pages text

-- the words ask for a generated trace, which comes to this
pub record IsGenOutput (words : List (List ℕ)) (status : ℕ) (text : List ℕ) : Type 0 where
  pub seed : ℕ
  pub ops : ℕ
  pub threads : ℕ
  pub pages : ℕ
  pub asked : IsGen words seed ops threads pages
  pub comes : GenComesTo seed ops threads pages status text

-- the words ask for a replay of the input in a manner; where the source tells the input, it comes to this
pub record IsReplayOutput (words : List (List ℕ)) (told : Option (List ℕ)) (status : ℕ) (text : List ℕ) : Type 0 where
  pub manner : Manner
  pub asked : IsReplaying manner words
  pub status_is : IsReplayStatus status
  pub comes : (bytes : List ℕ) → told ≡ Some bytes → ComesTo (way_of manner) bytes status text

-- the words ask for a check of the input; where the source tells the input, it comes to this
pub record IsCheckOutput (words : List (List ℕ)) (told : Option (List ℕ)) (status : ℕ) (text : List ℕ) : Type 0 where
  pub asked : IsChecking words
  pub status_is : IsCheckStatus status
  pub comes : (bytes : List ℕ) → told ≡ Some bytes → ChecksTo bytes status text

-- what a call with these words writes in full, with its status: the usage where the words are no accepted list; for `order`, `run` and `check` what the input
-- comes to; for `gen` what the generated trace comes to
abbrev pub IsOutput : List (List ℕ) → Option (List ℕ) → ℕ → List ℕ → Type 0
IsOutput words told status text = ((IsAccepted words → ⊥) × (status ≡ 2) × (text ≡ usage_text)) ⊎ IsReplayOutput words told status text ⊎ IsCheckOutput words told status text
    ⊎ IsGenOutput words status text

-- ---- what each status says. The sink told `before` and tells `after`
abbrev pub IsWriting : ℕ → Type 0
IsWriting status = (status ≡ 0) ⊎ (status ≡ 1) ⊎ (status ≡ 2) ⊎ (status ≡ 6) ⊎ (status ≡ 8)

abbrev pub IsStatus : ℕ → Type 0
IsStatus status = IsWriting status ⊎ (status ≡ 3) ⊎ (status ≡ 4) ⊎ (status ≡ 5)

-- 0, 1, 2, 6, 8: the whole text was written
pub record IsWritten (words : List (List ℕ)) (told before after : Option (List ℕ)) (status : ℕ) : Type 0 where
  pub text : List ℕ
  pub output : IsOutput words told status text
  pub written : Writes before after text

-- 3: a read failed. Where the source tells its bytes, no more of them were taken than an input may have
pub record HasFailed (told told' : Option (List ℕ)) (faults faults' : ℕ) : Type 0 where
  pub rose : Rose faults faults'
  pub taken : (bytes : List ℕ) → told ≡ Some bytes → Takes bytes told' most_bytes

-- 4: the sink failed. What was written is a first part of what another status would have written
pub record IsCutOff (words : List (List ℕ)) (told before after : Option (List ℕ)) (faults faults' : ℕ) : Type 0 where
  pub rose : Rose faults faults'
  pub status : ℕ
  pub text : List ℕ
  pub output : IsOutput words told status text
  pub written : WritesFront before after text
