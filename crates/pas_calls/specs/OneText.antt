-- THE ONE TEXT: what `order` writes of an input is a function of its bytes, and what `gen` writes one of its numbers.
use Rattle.std.specs.Prelude.{ℕ, ◌≡◌, List, reverse, Option, None, Some, Result, Ok, Err}
use Rattle.pas_profile.specs.declared.profile.Profile.{Profile}
use Rattle.pas_trace.specs.{Plans.{IsPlanOf, Parsed, parsed}, declared.{fault.TraceFault.TraceFault, plan.Plan.Plan}}
use Rattle.pas_generate.specs.Traces.{trace_text}
use Rattle.pas_io.specs.Told.{Writes}
use Rattle.pas_report.specs.Reports.{total_line}
use Rattle.pas_answers.specs.Ways.{Way, InOrder, OnThreads}
use Rattle.pas_replay.specs.OneThread.{IsOfOneThread}
use Rattle.pas_same_text.specs.{State.World, Order.{order_text, region_of, replay_of}}
use Rattle.pas_telling.specs.Summaries.{summary_text}

-- THE TEXT IS THAT OF THE BYTES, as `pas_same_text` says it
abbrev pub IsTextOf : List ℕ → List ℕ → Type 0
IsTextOf bytes text = order_text bytes ≡ Some text

-- .. and it was written whole
abbrev pub WritesTextOf : List ℕ → Option (List ℕ) → Option (List ℕ) → Type 0
WritesTextOf bytes before after = (text : List ℕ) × IsTextOf bytes text × Writes before after text

-- the bytes are a trace of one thread alone: nothing in it could be at once
abbrev pub IsOfOne : List ℕ → Type 0
IsOfOne bytes = (plan : Plan) × IsPlanOf bytes plan × IsOfOneThread plan

-- a replay in the order of the text comes to it, and on threads one of one thread alone
abbrev pub IsTextBy : Way → List ℕ → List ℕ → Type 0
IsTextBy InOrder bytes text = IsTextOf bytes text
IsTextBy OnThreads bytes text = IsOfOne bytes → IsTextOf bytes text

-- ---- the summary of a generated trace
-- of a state: the numbers of lines by its records, and the totals by its events
abbrev pub summary_of_world : ℕ → Profile → World → List ℕ
summary_of_world ops f w = summary_text ops (reverse w.records) (total_line f w.events)

abbrev pub summary_for : ℕ → Result Parsed TraceFault → Option (List ℕ)
summary_for ops (Ok p) = Some (summary_of_world ops (region_of p) (replay_of p))
summary_for ops (Err fault) = None

-- THE SUMMARY that `gen` writes for these numbers: that of the state that the replay of the generated trace comes to
abbrev pub gen_text : ℕ → ℕ → ℕ → ℕ → Option (List ℕ)
gen_text seed ops threads pages = summary_for ops (parsed (trace_text seed ops threads pages))

abbrev pub IsSummaryOf : ℕ → ℕ → ℕ → ℕ → List ℕ → Type 0
IsSummaryOf seed ops threads pages text = gen_text seed ops threads pages ≡ Some text
